-- The layout that a request for a size at an alignment has. Definitions only.
use Rattle.std.specs.Prelude.{◌≡◌, Some, ℕ}
use Rattle.rules.specs.Refusals.{layout_of}
use Rattle.layout.specs.declared.valid.Layout.{Layout}

pub record Lays (s align : ℕ) (l : Layout) : Type 0 where
  pub rounded : layout_of s align ≡ Some l.size
  pub aligned : l.align ≡ align
