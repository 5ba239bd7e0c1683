-- What holds of the program's talk between two reads, and what it writes. Definitions only.
use Rattle.std.specs.Prelude.{◌≡◌, [], List, ℕ, cond, eqb, length}
use Rattle.std.specs.declared.option.Option.{Option}
use Rattle.std.specs.Io.KnownBytes.{Appends, Consumes}
use Rattle.talk.specs.declared.Talk.{Talk}
use Rattle.talk.specs.Hearing.{Come, answered, heard, taken}

-- no answer waits
abbrev pub Settled : Talk → Type 0
Settled t = t.waits.items ≡ []

-- bytes are heard from c₀ on: every answer stands behind what the output had, and what they come to is c, the answers taken away
pub record Said (c₀ : Come) (bytes : List ℕ) (had has : Option (List ℕ)) (c : Come) : Type 0 where
  pub comes : c ≡ taken (heard bytes c₀)
  pub written : Appends had has (heard bytes c₀).waits

-- bytes are taken from the input, and that is said of them
pub record Took (c₀ : Come) (left left' had has : Option (List ℕ)) (c : Come) : Type 0 where
  pub bytes : List ℕ
  pub read : Consumes left left' bytes
  pub said : Said c₀ bytes had has c

-- at the end what is kept is answered too: the last line may lack its LF
abbrev pub ended : Come → Come
ended c = cond (eqb (length c.kept) 0) c (answered c)

-- bytes are taken from the input, and the answers to all of them stand behind what the output had
pub record Talked (c₀ : Come) (left left' had has : Option (List ℕ)) : Type 0 where
  pub bytes : List ℕ
  pub read : Consumes left left' bytes
  pub written : Appends had has (ended (heard bytes c₀)).waits
