-- What stands against a span, seen from it: the holes before it and behind it that keep clear of it. Assumes nothing.
use mathlib.Core.Path.{sym, ◌∙◌}
use mathlib.Core.List.{List, [], ◌∷◌, ◌++◌}
use Prim.Native.Nat.{ℕ, ◌≤◌}
use native.Mathlib.Omega.{arith}
use Rattle.rules.specs.Fixed.{min_size}
use Rattle.rules.specs.Holes.{end}
use Rattle.rules.specs.declared.Hole.{Hole}
use Rattle.rules.specs.Inner.{Rises, end_or}
use Rattle.std.proofs.lemmas.Bool.{or_parts}
use Rattle.rules.proofs.Rises.{rises_widen}
use Rattle.rules.proofs.Clear.{
  Clear,
  Follows,
  clear_rest,
  clear_follows,
  clear_followed,
  ClearBefore,
  ClearBehind,
  overlaps_append,
  eight_append,
}
use Rattle.walk.proofs.ToSpan.{AllFrom, Beyond}

pub clear_split : (g : Hole) (front back : List Hole) → Clear g (front ++ back) → Clear g front × Clear g back
clear_split g front back c =
    let o = or_parts _ _ (sym (overlaps_append g front back) ∙ c.0) in
    let n = or_parts _ _ (sym (eight_append g front back) ∙ c.1) in
    ((o.0, n.0), (o.1, n.1))

-- the last hole that starts at or before a span ends there too, if it neither overlaps it nor leaves 8 bytes
before_clear : (g k : Hole) (ks : List Hole) → min_size ≤ g.size → AllFrom g.addr (k ∷ ks) → Clear g (k ∷ ks)
    → Follows g.addr.0 (end_or (end k).0 ks)
before_clear g k [] n a c = clear_followed g k [] c n a.0
before_clear g k (j ∷ js) n a c = before_clear g j js n a.1 (clear_rest g k (j ∷ js) c)

pub clear_before : (g : Hole) (front : List Hole) → min_size ≤ g.size → AllFrom g.addr front → Clear g front → ClearBefore g front
clear_before g [] n a c = tt
clear_before g (k ∷ ks) n a c = before_clear g k ks n a c

-- the first that starts behind it starts where it ends, or further on
pub clear_behind : (lo hi : ℕ) (g : Hole) (back : List Hole) → Rises lo hi back → Beyond g.addr back → Clear g back → ClearBehind g back
clear_behind lo hi g [] r b c = tt
clear_behind lo hi g (k ∷ ks) r b c = clear_follows g k ks c r.1 b

-- so the holes before it end where it starts, or earlier
pub before_end : (lo : ℕ) (g : Hole) (front : List Hole) → lo ≤ g.addr.0 → ClearBefore g front → end_or lo front ≤ g.addr.0
before_end lo g [] l c = l
before_end lo g (k ∷ ks) l c = c.0

-- and those behind it rise from its end
pub behind_rises : (lo hi hi' : ℕ) (g : Hole) (back : List Hole) → Rises lo hi back → hi ≤ hi' → (end g).0 ≤ hi' → ClearBehind g back
    → Rises (end g).0 hi' back
behind_rises lo hi hi' g [] r w l c = l
behind_rises lo hi hi' g (k ∷ ks) r w l c =
    (c.0, r.1, rises_widen (end k).0 (end k).0 hi hi' ks (omega arith) w r.2)
