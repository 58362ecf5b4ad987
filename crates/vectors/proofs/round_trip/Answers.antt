-- The condition holds by the law that decryption undoes encryption.
use Rattle.std.proofs.Common.{◌∙◌, ap}
use Rattle.present.specs.Present.{decrypt_block}
use Rattle.present.proofs.Inverse.{decrypt-encrypt}
use Rattle.vectors.proofs.round_trip.Goals as goal

pub prove-unreachable-requires : goal.prove-unreachable-requires
prove-unreachable-requires c =
    let key = c.args.key in
    c.if-prove.true
    (c.decrypt-decrypted.ensures ∙ ap (decrypt_block key) c.encrypt-encrypted.ensures ∙ decrypt-encrypt key c.args.block c.ranges.key.fits c.ranges.block.fits)
