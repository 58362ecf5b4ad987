-- With 32 entries that are round keys, the list is the list of them.
use Rattle.std.proofs.Common.{arith}
use Rattle.basics.proofs.Range.{follows-all}
use Rattle.present.specs.Present.{round_keys}
use Rattle.present.proofs.round_keys.Goals as goal

pub returns : goal.returns
unfolding round_keys
returns c = follows-all c.loop-i.invariant.1 (omega arith)
