-- The numbers that the paper fixes, each by one name. Definitions only.
use Rattle.std.specs.Prelude.{ℕ, ◌^◌}

-- the most bytes of an arena: 16 MiB
abbrev pub arena_limit : ℕ
arena_limit = 16777216

-- what base + arena length is at most, and what a rounded size and its alignment are together
abbrev pub addr_limit : ℕ
addr_limit = 2 ^ 63

-- the bytes of a head, and so the least size of a hole (`min_size`)
abbrev pub min_size : ℕ
min_size = 16

-- what addresses and sizes are multiples of, and the bytes of a word
abbrev pub grain : ℕ
grain = 8

-- the digits of a number
abbrev pub width : ℕ
width = 64
