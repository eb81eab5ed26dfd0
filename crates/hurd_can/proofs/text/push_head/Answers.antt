use Rattle.std.specs.Prelude.{◌++◌, codes}
use Rattle.hurd_can.proofs.ListLaws.{join}
use Rattle.hurd_can.proofs.text.push_head.Goals as goal

pub returns : goal.returns
returns c =
    (join (c.args.text.now.items) (c.extend_from_slice.new.self.items) (c.extend_from_slice-7.new.self.items) (codes "  ") ((c.args.who.now ++ (codes " could see: " ++ (c.args.place.now ++ (codes ": " ++ (c.args.word.now ++ codes ": ")))))) c.in_ok-extend_from_slice.ensures.items (join (c.extend_from_slice.new.self.items) (c.extend_from_slice-2.new.self.items) (c.extend_from_slice-7.new.self.items) (c.args.who.now) ((codes " could see: " ++ (c.args.place.now ++ (codes ": " ++ (c.args.word.now ++ codes ": "))))) c.in_ok-extend_from_slice-2.ensures.items (join (c.extend_from_slice-2.new.self.items) (c.extend_from_slice-3.new.self.items) (c.extend_from_slice-7.new.self.items) (codes " could see: ") ((c.args.place.now ++ (codes ": " ++ (c.args.word.now ++ codes ": ")))) c.in_ok-extend_from_slice-3.ensures.items (join (c.extend_from_slice-3.new.self.items) (c.extend_from_slice-4.new.self.items) (c.extend_from_slice-7.new.self.items) (c.args.place.now) ((codes ": " ++ (c.args.word.now ++ codes ": "))) c.in_ok-extend_from_slice-4.ensures.items (join (c.extend_from_slice-4.new.self.items) (c.extend_from_slice-5.new.self.items) (c.extend_from_slice-7.new.self.items) (codes ": ") ((c.args.word.now ++ codes ": ")) c.in_ok-extend_from_slice-5.ensures.items (join (c.extend_from_slice-5.new.self.items) (c.extend_from_slice-6.new.self.items) (c.extend_from_slice-7.new.self.items) (c.args.word.now) (codes ": ") c.in_ok-extend_from_slice-6.ensures.items c.in_ok-extend_from_slice-7.ensures.items))))))
