-- The number of each layer of a sheet's rules. Assumes nothing.
use Rattle.std.specs.Prelude.{ℕ}
use Rattle.refusal.specs.declared.value.Layer.{Layer}
use Rattle.refusal.specs.declared.value.Layer.TheVariants.{Layout, Draft}

abbrev pub layer_number : Layer → ℕ
layer_number Layout = 1
layer_number Draft = 2
