-- Map 2, row by row: kind, start, digest address, end, granule of the data. LIFE_CYCLE has no digest: its digest address is its end.
use Rattle.std.specs.Prelude.{[], ◌∷◌}
use Rattle.partitions.specs.declared.Kind.TheVariants.{Software, AuthState, HwCfg, Secret0, Secret1, Secret2, LifeCycle}
use Rattle.partitions.specs.Map.{Map, row}

unfoldable pub map2 : Map
map2 =
    row Software 0x000 0x038 0x040 4
    ∷ row Software 0x040 0x138 0x140 4
    ∷ row Software 0x140 0x238 0x240 4
    ∷ row Software 0x240 0x410 0x418 4
    ∷ row AuthState 0x418 0x438 0x440 4
    ∷ row HwCfg 0x440 0x480 0x488 4
    ∷ row HwCfg 0x488 0x490 0x498 4
    ∷ row Secret0 0x498 0x4B8 0x4C0 8
    ∷ row Secret1 0x4C0 0x510 0x518 8
    ∷ row Secret2 0x518 0x568 0x570 8
    ∷ row LifeCycle 0x570 0x5C8 0x5C8 4
    ∷ []
