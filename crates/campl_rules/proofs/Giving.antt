-- What instructions hand to places, in turn.
use Rattle.std.proofs.Common.{◌≡◌, refl, ℕ, Bool, List, [], ap, sym, ◌∙◌, Option, Some, None}
use Rattle.std.specs.Prelude.{slice_get, option_map}
use Rattle.campl_code.specs.Heights.{Heights, handed_by, or_later}
use Rattle.campl_code.specs.Instructions.{Instr, Code}
use Rattle.campl_code.specs.Rules.{height_at}
use Rattle.campl_rules.specs.Found.{handed_at, handed_there}
use Rattle.campl_rules.specs.Given.{TakesLater, gives}

-- what a place has, or else what comes to it
abbrev pub later : List (Option ℕ) → (ℕ → Option ℕ) → ℕ → Option (Option ℕ)
later given comes to = option_map (λ g. or_later g (comes to)) (slice_get given to)

or-later-none : (a : Option ℕ) → or_later a None ≡ a
or-later-none None = refl
or-later-none (Some h) = refl

-- where nothing comes
pub later-nothing : (a : List (Option ℕ)) (f : ℕ → Option ℕ) → ((to : ℕ) → f to ≡ None) → (to : ℕ) → slice_get a to ≡ later a f to
later-nothing a f e to = go (slice_get a to) ∙ ap (λ y. option_map (λ x. or_later x y) (slice_get a to)) (sym (e to))
  where
    go : (o : Option (Option ℕ)) → o ≡ option_map (λ x. or_later x None) o
    go None = refl
    go (Some x) = ap Some (sym (or-later-none x))

pub each-end : (initial given : List (Option ℕ)) (places rest : List ℕ) (height : ℕ) → rest ≡ [] → ((to : ℕ) → later given (gives rest height) to ≡ later initial (gives places height) to) → TakesLater initial (gives places height) given
each-end initial given places rest height e i to = later-nothing given (gives rest height) (λ n. ap (λ r. gives r height n) e) to ∙ i to

pub in-end : (initial given : List (Option ℕ)) (rest whole : ℕ → Option ℕ) → ((to : ℕ) → rest to ≡ None) → ((to : ℕ) → later given rest to ≡ later initial whole to) → TakesLater initial whole given
in-end initial given rest whole e i to = later-nothing given rest e to ∙ i to

-- the instruction at a place
pub at-place : (a b : List (Option ℕ)) (code : Code) (p : Bool) (block : List Instr) (heights : Heights) (at : ℕ) (x : Instr) (h : Option (ℕ × Bool)) → slice_get block at ≡ Some x → height_at heights at ≡ h
    → TakesLater a (λ to. handed_by code p block at x to h) b → TakesLater a (handed_at code p block heights at) b
at-place a b code p block heights at x h s e t to =
    t to ∙ ap (λ o. later a (λ n. handed_there code p block at o n h) to) (sym s) ∙ ap (λ k. later a (λ n. handed_there code p block at (slice_get block at) n k) to) (sym e)
