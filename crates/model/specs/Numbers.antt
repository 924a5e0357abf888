-- The numbers that egui's text names. Definitions only. f32 unless a comment says otherwise.
use Rattle.std.specs.Prelude.{true, false, pos, Float}
use Rattle.std.specs.Float.{fin, inf, binary32}
use Rattle.std.specs.Float.Ieee.{of_bits}

abbrev pub +0 : Float
+0 = fin false 0 (pos 0)

-- f64::NEG_INFINITY
abbrev pub neg_infinity : Float
neg_infinity = inf true

unfoldable pub one : Float
one = of_bits binary32 0x3f80_0000

-- 0.01
unfoldable pub hundredth : Float
hundredth = of_bits binary32 0x3c23_d70a

-- 0.2
unfoldable pub fifth : Float
fifth = of_bits binary32 0x3e4c_cccd

unfoldable pub three : Float
three = of_bits binary32 0x4040_0000

unfoldable pub eight : Float
eight = of_bits binary32 0x4100_0000

unfoldable pub ten_thousand : Float
ten_thousand = of_bits binary32 0x461c_4000

-- 1.0 / 60.0
unfoldable pub sixtieth : Float
sixtieth = of_bits binary32 0x3c88_8889
