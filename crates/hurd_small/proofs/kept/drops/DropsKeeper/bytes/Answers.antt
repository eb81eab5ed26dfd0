use Rattle.std.proofs.Common.{arith}
use Rattle.std.proofs.lemmas.List.{take-replicate}
use Rattle.hurd_trans_iface.specs.Kinds.Drip.{drop_byte}
use Rattle.hurd_small.proofs.kept.drops.DropsKeeper.bytes.Goals as goal

-- of all bytes the first ones are those that were given
pub returns : goal.returns
returns c = let s = c.args.self.now in let within = s.within in let few = s.few in take-replicate s.given 1000 drop_byte (omega (arith, within, few))
