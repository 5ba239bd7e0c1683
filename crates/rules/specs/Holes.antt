-- Heads, and the list of holes that they hold: the only way from bytes to holes, and back. Definitions only.
use Rattle.std.specs.Prelude.{List, [], ◌∷◌, true, false, ℕ, zero, suc, ◌+◌}
use Rattle.rules.specs.declared.Addr.{Addr}
use Rattle.rules.specs.declared.Place.{Place}
use Rattle.rules.specs.declared.Head.{Head}
use Rattle.rules.specs.declared.Hole.{Hole}
use Rattle.rules.specs.Fixed.{grain}
use Rattle.rules.specs.Kinds.{addr_of, place_of, place, none, is_none, index, plus}
use Rattle.rules.specs.Words.{word, store}

-- a free stretch, known by address and size
abbrev pub hole : Addr → ℕ → Hole
hole a s = record { addr = a; size = s }

-- the address after its last byte
abbrev pub end : Hole → Addr
end h = plus h.addr h.size

-- ---- one head: size, then the place of the next head, each 8 bytes

unfoldable pub head_at : List ℕ → Place → Head
head_at m p = record { size = word grain m (index p); next = place (word grain m (index p + grain)) }

-- the arena with a head written at a place
unfoldable pub put_head : List ℕ → Place → Head → List ℕ
put_head m p h = store grain (store grain m (index p) h.size) (index p + grain) (index h.next)

-- ---- the list

-- the holes that the heads hold from a place on, at most n of them
unfoldable pub holes_from : ℕ → Addr → List ℕ → Place → List Hole
holes_from zero base m p = []
holes_from (suc n) base m p =
    elim (is_none p) [
      | true ↦ []
      | false ↦ hole (addr_of base p) (head_at m p).size ∷ holes_from n base m (head_at m p).next
    ]

-- the place of the first of the holes
unfoldable pub first_of : Addr → List Hole → Place
first_of base [] = none
first_of base (h ∷ hs) = place_of base h.addr

-- the arena with each hole's numbers in its head
unfoldable pub put_heads : Addr → List Hole → List ℕ → List ℕ
put_heads base [] m = m
put_heads base (h ∷ hs) m =
    put_head (put_heads base hs m) (place_of base h.addr) (record { size = h.size; next = first_of base hs })

-- ---- what is asked of a list

-- the sum of the sizes
unfoldable pub total : List Hole → ℕ
total [] = 0
total (h ∷ hs) = h.size + total hs
