-- Lists of tests. Definitions only.
use Rattle.std.specs.Prelude.{List, [], ◌∷◌, Bool, true, false, ◌&&◌, ◌||◌}

-- all of the tests pass
abbrev pub all : List Bool → Bool
all [] = true
all (b ∷ bs) = b && all bs

-- one of the tests passes
abbrev pub any : List Bool → Bool
any [] = false
any (b ∷ bs) = b || any bs
