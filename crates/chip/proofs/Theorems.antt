-- All claims of the chip, with each map: PRESENT has the cipher's laws, its digest is a number of 64 bits, and both maps are fit.
use Rattle.partitions.specs.declared.MapName.{MapName}
use Rattle.partitions.specs.Maps.{map_of}
use Rattle.partitions.proofs.Maps.{maps-fit}
use Rattle.present.proofs.Inverse.{encrypt-lt, decrypt-encrypt, decrypt-lt, encrypt-decrypt}
use Rattle.digest.proofs.Fits.{digest-lt}
use Rattle.model.specs.Claims.Terms.{Cipher, DigestFits}
use Rattle.model.specs.Claims.All.{Claims}
use Rattle.model.proofs.Theorems.{claims}
use Rattle.chip.specs.Chip.{primitives}

pub present-cipher : Cipher primitives
present-cipher = record { fits = encrypt-lt; back = decrypt-encrypt; plain_fits = decrypt-lt; forth = encrypt-decrypt }

pub present-digest : DigestFits primitives
present-digest = record { fits = λ start final words s f w. digest-lt start final words s f (record { small = w }) }

pub chip-claims : (name : MapName) → Claims primitives (map_of name)
chip-claims name = claims primitives present-cipher present-digest (map_of name) (maps-fit name)
