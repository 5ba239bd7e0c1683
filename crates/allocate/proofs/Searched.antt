-- The search that an allocation begins with: the hole that it found, the walk that goes on behind it, and the refusal where no hole suits.
-- Assumes nothing.
use mathlib.Core.Path.{◌≡◌}
use mathlib.Core.List.{List, [], ◌∷◌, ◌++◌}
use Prim.Native.Nat.{ℕ, ◌+◌, ◌≤◌}
use lib.ListN.{length}
use Rattle.std.specs.Prelude.{⊤}
use Rattle.std.proofs.Common.{Result, Ok, Err}
use Rattle.rules.specs.Fixed.{min_size}
use Rattle.rules.specs.Holes.{end, holes_from}
use Rattle.rules.specs.Sound.{sound_holes, holes}
use Rattle.rules.specs.Calls.{taken}
use Rattle.rules.specs.declared.Heap.{Heap}
use Rattle.rules.specs.declared.Refusal.{Refusal}
use Rattle.rules.specs.declared.Refusal.TheVariants.{NoRoom}
use Rattle.rules.specs.Inner.{Fair, behind, Fulfils}
use Rattle.rules.proofs.Cases.{cases}
use Rattle.walk.specs.Walk.{Enough, or_5, adds_up, walked_of, search_of}
use Rattle.walk.specs.declared.Fit.{Fit}
use Rattle.walk.proofs.ToFit.{Fits, fit_at, fit_refused, fit_none, fit_reached}
use Rattle.allocate.specs.Granted.{takes, granted_if_sound}
use Rattle.walk.proofs.ToEnd.{Reached, onward_asks, onward_decides}
use Rattle.rules.proofs.Written.{fulfils_refused, fulfils_sound, fulfils_broken}

-- ---- the hole found

module _ (h : Heap) (m : List ℕ) (want align : ℕ) {f : Fit} (fair : Fair h) (at : search_of h want align (holes h m) ≡ Ok f) where
  -- it keeps its rules
  pub inside : (min_size ≤ f.hole.size) × ((end f.hole).0 ≤ h.top.0)
  inside = let k = (fit_at h want align (holes h m) at).keeps in (k.least, k.inside)

  reached : (t : Fits h want align (holes h m) f) → Reached h m f.next (behind f.hole) f.total (t.front ++ (f.hole ∷ [])) t.back
  reached t = fit_reached h m want align fair t

  -- what the walk behind it leans on
  pub asks : (h.bottom.0 + f.total ≤ (behind f.hole).0) × ((behind f.hole).0 ≤ h.top.0 + min_size)
  asks = onward_asks (reached (fit_at h want align (holes h m) at))

  -- it decides the rules on all holes
  pub goes_on : {w : Result ⊤ Refusal}
      → ((n : ℕ) → Enough h (behind f.hole) n
      → w ≡ or_5 (adds_up h (walked_of h (behind f.hole) f.total (holes_from n h.base m f.next))))
      → w ≡ or_5 (sound_holes h (holes h m))
  goes_on is = onward_decides (reached (fit_at h want align (holes h m) at)) is

-- ---- no hole suits, or a head breaks a rule

pub not_found : (h : Heap) (m : List ℕ) (want align : ℕ) → Fair h → {r : Refusal} → search_of h want align (holes h m) ≡ Err r
    → Fulfils (granted_if_sound want align h m) h m (Err r)
unfolding taken
not_found h m want align fair e =
    let ks = holes h m in
    let o = takes want align h m in
    let why = fit_refused h m want align fair e in
    cases (sound_holes h ks)
    (λ s.
    rw (why, s)
    (fulfils_sound h m ks o s (rw (fit_none h m want align fair e s) (fulfils_refused h m (NoRoom (length ks))))))
    (λ s. rw (why, s) (fulfils_broken h m ks o s))
