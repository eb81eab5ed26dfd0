use Rattle.std.specs.Prelude.{◌++◌, codes, decimal}
use Rattle.hurd_can.specs.Could.{parts_word}
use Rattle.hurd_can.proofs.ListLaws.{join}
use Rattle.hurd_can.proofs.text.add_count.Goals as goal

pub returns : goal.returns
returns c =
    join c.args.text.now.items c.extend_from_slice.new.self.items c.extend_from_slice-3.new.self.items c.args.who.now (codes " could be shown " ++ (decimal c.args.count ++ parts_word c.args.count)) c.in_ok-extend_from_slice.ensures.items
    (join c.extend_from_slice.new.self.items c.extend_from_slice-2.new.self.items c.extend_from_slice-3.new.self.items (codes " could be shown ") (decimal c.args.count ++ parts_word c.args.count) c.in_ok-extend_from_slice-2.ensures.items
    (join c.extend_from_slice-2.new.self.items c.push_decimal.new.text.items c.extend_from_slice-3.new.self.items (decimal c.args.count) (parts_word c.args.count) c.in_ok-push_decimal.ensures (rw c.parts_word.ensures at c.in_ok-extend_from_slice-3.ensures.items)))
