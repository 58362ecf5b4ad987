-- The published vectors of PRESENT with a key of 128 bits: the checker computes the definition on each.
use mathlib.Core.Path.{◌≡◌, refl}
use Rattle.basics.specs.Choice.{when◌then◌else◌}
use Rattle.basics.specs.Range.{sum}
use Rattle.present.specs.Present.{s_box, substitute, place, permute, round_key, rotate_left61, substitute_top, key_step, key_after, state_after, encrypt_block}

pub vectors : (encrypt_block 0 0 ≡ 0x96db_702a_2e69_00af)
    × (encrypt_block 0 0xffff_ffff_ffff_ffff ≡ 0x3c60_19e5_e5ed_d563)
    × (encrypt_block 0xffff_ffff_ffff_ffff_ffff_ffff_ffff_ffff 0 ≡ 0x1323_8c71_0272_a5d8)
    × (encrypt_block 0xffff_ffff_ffff_ffff_ffff_ffff_ffff_ffff 0xffff_ffff_ffff_ffff ≡ 0x628d_9fbd_4218_e5b4)
    × (encrypt_block 0x0123_4567_89ab_cdef_0123_4567_89ab_cdef 0x0123_4567_89ab_cdef ≡ 0x0e9d_2868_5e67_1dd6)
unfolding when◌then◌else◌ sum s_box substitute place permute round_key rotate_left61 substitute_top key_step key_after state_after encrypt_block
vectors = (refl, refl, refl, refl, refl)
