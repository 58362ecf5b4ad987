-- Map 1, row by row: kind, start, digest address, end, granule of the data. LIFE_CYCLE has no digest: its digest address is its end.
use Rattle.std.specs.Prelude.{[], ◌∷◌}
use Rattle.partitions.specs.declared.Kind.TheVariants.{Software, HwCfg, Secret0, Secret1, Secret2, LifeCycle}
use Rattle.partitions.specs.Map.{Map, row}

unfoldable pub map1 : Map
map1 =
    row Software 0x000 0x0F8 0x100 4
    ∷ row Software 0x100 0x1F8 0x200 4
    ∷ row HwCfg 0x200 0x248 0x250 4
    ∷ row Secret0 0x250 0x270 0x278 8
    ∷ row Secret1 0x278 0x2C8 0x2D0 8
    ∷ row Secret2 0x2D0 0x320 0x328 8
    ∷ row LifeCycle 0x328 0x380 0x380 4
    ∷ []
