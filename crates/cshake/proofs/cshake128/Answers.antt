-- Where both strings are empty it is SHAKE128; else the sponge takes the prefix and the message, and the suffix is that of cSHAKE128.
use Rattle.std.proofs.Common.{◌∙◌, length, arith}
use Rattle.cshake.proofs.Squeezing.{cshake-empty, cshake-is, front_bytes}
use Rattle.cshake.proofs.cshake128.Goals as goal

pub returns-then-is_empty : goal.returns-then-is_empty
returns-then-is_empty c =
    let a = c.args in
    c.shake128.ensures
    ∙ cshake-empty a.message.now (length a.out.now) a.name.now a.customization.now (rw (← c.is_empty.ensures, ← c.is_empty-2.ensures) c.if-is_empty.true)

pub returns : goal.returns
returns c =
    let a = c.args in
    let name = a.name.now in
    let customization = a.customization.now in
    let front =
    front_bytes name customization (λ i. (c.type_inv.name i).fits) (omega arith) (λ i. (c.type_inv.customization i).fits) (omega arith)
    in
    cshake-is a.message.now _ name customization (rw (← c.is_empty.ensures, ← c.is_empty-2.ensures) c.if-is_empty.false) front
    (λ i. (c.type_inv.message i).fits) c.prefix-sponge.ensures c.take_all.ensures c.finish.ensures c.squeeze.ensures
