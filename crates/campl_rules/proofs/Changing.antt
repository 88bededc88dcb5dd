-- Heights that change at places, in turn.
use Rattle.std.proofs.Common.{◌≡◌, refl, ℕ, Bool, true, false, List, [], ◌∷◌, ◌++◌, ap, sym, ◌∙◌, Option, Some, None}
use Rattle.std.specs.Prelude.{slice_get, option_map, eqb, if◌then◌else◌, ◌||◌}
use Rattle.campl_code.specs.Heights.{Heights, is_among}
use Rattle.campl_rules.specs.Found.{Changed, taken_now, takes}
use Rattle.campl_rules.specs.Given.{given_at}

abbrev pub By : Type 0
By = ℕ → Option (ℕ × Bool) → Option (ℕ × Bool)

abbrev pub changed : Heights → List ℕ → By → ℕ → Option (Option (ℕ × Bool))
changed heights places by i = option_map (λ h. if is_among i places then by i h else h) (slice_get heights i)

-- the second time changes nothing
abbrev pub Once : By → Type 0
Once by = (i : ℕ) (h : Option (ℕ × Bool)) → by i (by i h) ≡ by i h

pub takes-once : (given : List (Option ℕ)) → Once (takes given)
takes-once given i h = go h (given_at given i)
  where
    go : (h : Option (ℕ × Bool)) (g : Option ℕ) → taken_now (taken_now h g) g ≡ taken_now h g
    go (Some p) g = refl
    go None (Some n) = refl
    go None None = refl

pub among-both : (xs ys : List ℕ) (i : ℕ) → is_among i (xs ++ ys) ≡ is_among i xs || is_among i ys
among-both [] ys i = refl
among-both (x ∷ xs) ys i = ap (λ b. eqb i x || b) (among-both xs ys i) ∙ turns (eqb i x) (is_among i xs) (is_among i ys)
  where
    turns : (a b c : Bool) → a || (b || c) ≡ (a || b) || c
    turns true b c = refl
    turns false b c = refl

pub changed-then : (a b : Heights) (ps qs : List ℕ) (by : By) → Once by → Changed a ps by b → (i : ℕ) → changed b qs by i ≡ changed a (ps ++ qs) by i
changed-then a b ps qs by once h i =
    ap (option_map (λ x. if is_among i qs then by i x else x)) (h i) ∙ go (slice_get a i) (is_among i ps) (is_among i qs)
    ∙ ap (λ t. option_map (λ x. if t then by i x else x) (slice_get a i)) (sym (among-both ps qs i))
  where
    go : (o : Option (Option (ℕ × Bool))) (p q : Bool) → option_map (λ x. if q then by i x else x) (option_map (λ x. if p then by i x else x) o) ≡ option_map (λ x. if p || q then by i x else x) o
    go None p q = refl
    go (Some x) true true = ap Some (once i x)
    go (Some x) true false = refl
    go (Some x) false q = refl

-- one by one
pub each-step : (initial old new : Heights) (places rest first : List ℕ) (by : By) → Once by → ((i : ℕ) → changed old (first ++ rest) by i ≡ changed initial places by i) → Changed old first by new
    → (i : ℕ) → changed new rest by i ≡ changed initial places by i
each-step initial old new places rest first by once h k i = changed-then old new first rest by once k i ∙ h i
