use Rattle.std.specs.Prelude.{◌++◌, codes}
use Rattle.hurd_can.proofs.ListLaws.{join}
use Rattle.hurd_can.proofs.text.add_help.Goals as goal

pub returns : goal.returns
returns c =
    (join (c.args.text.now.items) (c.extend_from_slice.new.self.items) (c.extend_from_slice-3.new.self.items) (codes "; help is any act that touches what ") ((c.args.sees.now ++ codes ", meant or not\n")) c.in_ok-extend_from_slice.ensures.items (join (c.extend_from_slice.new.self.items) (c.extend_from_slice-2.new.self.items) (c.extend_from_slice-3.new.self.items) (c.args.sees.now) (codes ", meant or not\n") c.in_ok-extend_from_slice-2.ensures.items c.in_ok-extend_from_slice-3.ensures.items))
