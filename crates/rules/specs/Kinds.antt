-- An address and a place in the arena: two kinds of number that no expression mixes, converted only through the base. No other
-- definition of what a call does opens them. Definitions only.
use Rattle.std.specs.Prelude.{Bool, ℕ, ◌+◌, ◌-◌, ◌%◌, ◌^◌, eqb, leb, ltb}
use Rattle.rules.specs.declared.Addr.{Addr}
use Rattle.rules.specs.declared.Place.{Place}
use Rattle.rules.specs.Fixed.{width}
use Rattle.rules.specs.Round.{up_to}

abbrev pub addr : ℕ → Addr
addr n = record { 0 = n }

abbrev pub place : ℕ → Place
place n = record { 0 = n }

-- ---- through the base

-- the address of a place
abbrev pub addr_of : Addr → Place → Addr
addr_of base p = addr (base.0 + p.0)

-- the place of an address
abbrev pub place_of : Addr → Addr → Place
place_of base a = place (a.0 - base.0)

-- ---- places

-- all ones: no place
abbrev pub none : Place
none = place (2 ^ width - 1)

abbrev pub is_none : Place → Bool
is_none p = eqb p.0 none.0

-- the number of a place, as a head holds it
abbrev pub index : Place → ℕ
index p = p.0

-- ---- addresses

-- the address n bytes on
abbrev pub plus : Addr → ℕ → Addr
plus a n = addr (a.0 + n)

-- the bytes from one address up to another
abbrev pub bytes_to : Addr → Addr → ℕ
bytes_to a b = b.0 - a.0

abbrev pub same : Addr → Addr → Bool
same a b = eqb a.0 b.0

abbrev pub before : Addr → Addr → Bool
before a b = ltb a.0 b.0

abbrev pub not_after : Addr → Addr → Bool
not_after a b = leb a.0 b.0

-- the address is a multiple of n
abbrev pub multiple_of : ℕ → Addr → Bool
multiple_of n a = eqb (a.0 % n) 0

-- the first multiple of n at or after the address
abbrev pub raised : ℕ → Addr → Addr
raised n a = addr (up_to n a.0)

-- the number of an address, as an answer or a row holds it
abbrev pub number : Addr → ℕ
number a = a.0
