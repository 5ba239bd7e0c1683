-- A list of holes that changes in the middle, and a span that is to become free between its neighbours. Definitions only.
use Rattle.std.specs.Prelude.{◌≡◌, Option, Some, None, Bool, false, cond, List, ◌++◌, ℕ, ◌+◌, ◌≤◌, eqb}
use Rattle.rules.specs.Fixed.{min_size, addr_limit}
use Rattle.rules.specs.Kinds.{addr_of, place_of, none, is_none, bytes_to, same}
use Rattle.rules.specs.Holes.{end, head_at, first_of}
use Rattle.rules.specs.declared.Addr.{Addr}
use Rattle.rules.specs.declared.Place.{Place}
use Rattle.rules.specs.declared.Head.{Head}
use Rattle.rules.specs.declared.Hole.{Hole}
use Rattle.rules.specs.declared.Heap.{Heap}
use Rattle.rules.specs.declared.Write.{Write}
use Rattle.rules.specs.Inner.{write, Inside, Rises, end_or}
use Rattle.walk.specs.Walk.{last_place}
use Rattle.walk.specs.declared.Cursor.{Cursor}
use Rattle.joining.specs.declared.Relinked.{Relinked}

-- ---- the link

abbrev pub relinked : Place → Option Write → Option Write → Relinked
relinked first one two = record { first = first; heads = record { one = one; two = two } }

-- the list begins at the place to, where no hole is before; else the hole before leads there, with the size that it has
unfoldable pub linked_to : Place → List ℕ → Place → Place → Option Write → Relinked
linked_to first m prev to one =
    cond (is_none prev) (relinked to one None) (relinked first one (write prev (head_at m prev).size to))

-- ---- what remains of a stretch

-- what remains between two addresses, as a head to be written
unfoldable pub remainder : Addr → Addr → Addr → Place → Option Write
remainder base lo hi next = cond (same lo hi) None (write (place_of base lo) (bytes_to lo hi) next)

-- its place, or that of the next hole
unfoldable pub leads_to : Option Write → Place → Place
leads_to None next = next
leads_to (Some w) next = w.at

-- ---- the span

-- a span that lies between the holes of a cursor and overlaps none
pub record Free (h : Heap) (ks : List Hole) (cursor : Cursor) (span : Hole) : Type 0 where
  pub front : List Hole
  pub back : List Hole
  pub list : ks ≡ front ++ back
  pub prev : cursor.prev ≡ last_place h.base none front
  pub next : cursor.hole ≡ first_of h.base back
  pub before : end_or h.bottom.0 front ≤ span.addr.0
  pub least : min_size ≤ span.size
  pub behind : Rises (end span).0 (h.base.0 + h.len) back

-- the bounds of a span and of the hole behind it
pub record MayMerge (base : Addr) (m : List ℕ) (span : Hole) (p : Place) : Type 0 where
  pub ends : (end span).0 ≤ addr_limit
  pub low : (p.0 ≡ none.0 → ⊥) → base.0 + p.0 ≤ addr_limit
  pub inside : Inside m p
  pub sum : (p.0 ≡ none.0 → ⊥) → span.size + (head_at m p).size ≤ addr_limit

-- the head of the span: joined with the hole behind it if it touches it, else leading to it
unfoldable pub merged_head : Addr → List ℕ → Hole → Place → Head
merged_head base m span p =
    cond (is_none p) (record { size = span.size; next = p })
    (cond (same (end span) (addr_of base p))
    (record { size = span.size + (head_at m p).size; next = (head_at m p).next })
    (record { size = span.size; next = p }))

-- the bounds of the hole before
pub record MayEnd (m : List ℕ) (p : Place) : Type 0 where
  pub inside : Inside m p
  pub reach : (p.0 ≡ none.0 → ⊥) → p.0 + (head_at m p).size ≤ addr_limit

-- a hole at a place, where there is one, ends at another place
unfoldable pub ends_at : List ℕ → Place → Place → Bool
ends_at m p at = cond (is_none p) false (eqb (p.0 + (head_at m p).size) at.0)
