-- Whether what instructions hand to places agrees, in turn.
use Rattle.std.proofs.Common.{◌≡◌, refl, ℕ, Bool, true, false, List, [], ◌∷◌, ap, sym, ◌∙◌, Option, Some, None}
use Rattle.std.specs.Prelude.{slice_get, option_map, ◌&&◌}
use Rattle.campl_code.specs.Heights.{Heights}
use Rattle.campl_code.specs.Instructions.{Instr, Code}
use Rattle.campl_code.specs.Rules.{height_at, ways_agree}
use Rattle.campl_rules.specs.Given.{AgreesLater, fits_there}

abbrev pub agreed : List Bool → (ℕ → Bool) → ℕ → Option Bool
agreed agrees comes to = option_map (λ b. b && comes to) (slice_get agrees to)

and-true : (a : Bool) → a && true ≡ a
and-true true = refl
and-true false = refl

pub agreed-nothing : (a : List Bool) (f : ℕ → Bool) → ((to : ℕ) → f to ≡ true) → (to : ℕ) → slice_get a to ≡ agreed a f to
agreed-nothing a f e to = go (slice_get a to) ∙ ap (λ y. option_map (λ x. x && y) (slice_get a to)) (sym (e to))
  where
    go : (o : Option Bool) → o ≡ option_map (λ x. x && true) o
    go None = refl
    go (Some x) = ap Some (sym (and-true x))

pub each-end : (initial agrees : List Bool) (places rest : List ℕ) (height : ℕ) (heights : Heights) → rest ≡ [] → ((to : ℕ) → agreed agrees (fits_there rest height heights) to ≡ agreed initial (fits_there places height heights) to)
    → AgreesLater initial (fits_there places height heights) agrees
each-end initial agrees places rest height heights e i to = agreed-nothing agrees (fits_there rest height heights) (λ n. ap (λ r. fits_there r height heights n) e) to ∙ i to

-- all instructions
abbrev pub rest-agrees : Code → Bool → List Instr → ℕ → List Instr → Heights → Heights → ℕ → Bool
rest-agrees code p block at rest later-heights heights to = ways_agree code p block at rest later-heights to (height_at heights to)

pub agrees-without : (code : Code) (p : Bool) (block : List Instr) (at : ℕ) (rest : List Instr) (heights : Heights) (to : ℕ) (own : Option (ℕ × Bool)) → heights ≡ [] → ways_agree code p block at rest heights to own ≡ true
agrees-without code p block at rest heights to own e = ap (λ h. ways_agree code p block at rest h to own) e ∙ go rest
  where
    go : (xs : List Instr) → ways_agree code p block at xs [] to own ≡ true
    go [] = refl
    go (x ∷ xs) = refl

-- from true at each place
pub all-end : (initial agrees : List Bool) (rest whole : ℕ → Bool) (to : ℕ) → slice_get initial to ≡ Some true → ((n : ℕ) → rest n ≡ true) → ((n : ℕ) → agreed agrees rest n ≡ agreed initial whole n) → slice_get agrees to ≡ Some (whole to)
all-end initial agrees rest whole to s e i = agreed-nothing agrees rest e to ∙ i to ∙ ap (option_map (λ b. b && whole to)) s

pub agrees-past : (code : Code) (p : Bool) (block : List Instr) (at : ℕ) (rest : List Instr) (heights : Heights) (to : ℕ) (own : Option (ℕ × Bool)) → rest ≡ [] → ways_agree code p block at rest heights to own ≡ true
agrees-past code p block at rest heights to own e = ap (λ r. ways_agree code p block at r heights to own) e
