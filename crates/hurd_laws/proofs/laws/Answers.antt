use Rattle.hurd_laws.proofs.Assembled.{after_renamed, changes_touched, gone_unseen, names_untold, never_wants_memory, others_unseen, own_from_view, stays_sound}
use Rattle.hurd_laws.proofs.StaysConfined.{confined, confined_run}
use Rattle.hurd_laws.proofs.Headline.{isolated, isolated_by_view, quiet_unmoved, side_by_side, view_settled}
use Rattle.hurd_laws.proofs.Integrity.{integrity}
use Rattle.hurd_laws.proofs.SparedRun.{integrity_run}
use Rattle.hurd_laws.proofs.SoundRenamed.{renamed_sound}
use Rattle.hurd_laws.proofs.SideBySide.{side_by_side_renamed}
use Rattle.hurd_laws.proofs.Raised.{raised_looks_same}
use Rattle.hurd_laws.proofs.OwnLooks.{own_from_looks}
use Rattle.hurd_machine.proofs.Larger.{sees_more, views_shrink}
use Rattle.hurd_laws.proofs.Coalitions.{never_tells_without, never_without, only_made, only_together}
use Rattle.hurd_laws.proofs.Sent.{reached_by_sending}
use Rattle.hurd_laws.proofs.ComesToSee.{comes_to_see}
use Rattle.hurd_laws.proofs.Paths.{path_stays}
use Rattle.hurd_laws.proofs.Refusals.{any_order, refused_changes_nothing, refused_touches_nothing}
use Rattle.hurd_laws.proofs.laws.Goals as goal

pub returns : goal.returns
returns c = record {
  changes_touched = changes_touched;
  gone_unseen = gone_unseen;
  others_unseen = others_unseen;
  own_from_view = own_from_view;
  stays_sound = stays_sound;
  never_wants_memory = never_wants_memory;
  confined = confined;
  confined_run = confined_run;
  isolated = isolated;
  quiet_unmoved = quiet_unmoved;
  isolated_by_view = isolated_by_view;
  side_by_side = side_by_side;
  view_settled = view_settled;
  integrity = integrity;
  integrity_run = integrity_run;
  names_untold = names_untold;
  renamed_sound = renamed_sound;
  side_by_side_renamed = side_by_side_renamed names_untold;
  raised_looks_same = raised_looks_same;
  after_renamed = after_renamed;
  own_from_looks = own_from_looks;
  sees_more = sees_more;
  views_shrink = views_shrink;
  only_together = only_together;
  only_made = only_made;
  reached_by_sending = reached_by_sending;
  comes_to_see = comes_to_see;
  never_without = never_without;
  never_tells_without = never_tells_without;
  refused_changes_nothing = refused_changes_nothing;
  refused_touches_nothing = refused_touches_nothing;
  any_order = any_order;
  path_stays = path_stays;
}
