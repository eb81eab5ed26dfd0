-- What is asked of a text.
use Rattle.std.proofs.Common.{◌≡◌, refl}
use Rattle.hurd_calls.proofs.WayLaws.{lists_limited}
use Rattle.hurd_dialogue.specs.Sorts.{Sort}
use Rattle.hurd_run.proofs.WayLaws.{scripts_limited}
use Rattle.hurd_terminal.proofs.RunLaws.{HasLimit}
use Rattle.hurd_program.specs.Requests.{asked, asked_of, sort_of}
use Rattle.hurd_program.specs.declared.request.Request.{Request}
use Rattle.hurd_program.specs.declared.request.TextSort.{TextSort}
use Rattle.hurd_program.specs.declared.request.TextSort.TheVariants.{Script, Calls}
use Rattle.hurd_program.specs.declared.request.Verb.{Verb}
use Rattle.hurd_program.specs.declared.request.Verb.TheVariants.{Run, Learn, See, Can, Draw}

-- a text that is too long is bad at line 0, whatever is asked of it
limited_of : (sort : TextSort) (verb : Verb) → HasLimit (asked_of (sort_of sort) verb).bad (asked_of (sort_of sort) verb).complaint
limited_of Script Run = scripts_limited
limited_of Script (Learn who most) = scripts_limited
limited_of Script (See who most) = scripts_limited
limited_of Script (Can who every how) = scripts_limited
limited_of Script (Draw who can) = scripts_limited
limited_of Calls Run = lists_limited
limited_of Calls (Learn who most) = lists_limited
limited_of Calls (See who most) = lists_limited
limited_of Calls (Can who every how) = lists_limited
limited_of Calls (Draw who can) = lists_limited

pub limited : (request : Request) → HasLimit (asked request).bad (asked request).complaint
limited request = limited_of request.sort request.verb

-- and what is said of a bad line is said for each sort
pub complains : (sort : Sort) (verb : Verb) → sort.complaint ≡ (asked_of sort verb).complaint
complains sort Run = refl
complains sort (Learn who most) = refl
complains sort (See who most) = refl
complains sort (Can who every how) = refl
complains sort (Draw who can) = refl
