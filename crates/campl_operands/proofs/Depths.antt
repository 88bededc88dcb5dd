-- Values that aren't too deep, and a constructor's value from what it was built of.
use Rattle.std.proofs.Common.{◌≡◌, ◌∙◌, ap, sym, refl, arith, ℕ, ◌<◌, ◌≤◌, Bool, true, false, List, length, reverse, take, drop, [], if◌then◌else◌}
use Rattle.std.specs.Prelude.{nat_le}
use Rattle.std.proofs.lemmas.Bool.{leb-true, leb-false}
use Rattle.campl_value.specs.Tree.{Tree, built, depth_of}
use Rattle.campl_value.specs.declared.value.TheConstants.{MAX_DEPTH}
use Rattle.campl_code.specs.Results.{Result, Value, Broken, TooDeep, Faulty, fitting}
use Rattle.campl_code.specs.Machine.{popped}
use Rattle.campl_operands.specs.Effects.{Stops, pushed, built_of}
use Rattle.campl_operands.proofs.Tops.{popped-is, popped-short}

pub fitting-is : (t : Tree) → depth_of t ≤ MAX_DEPTH → fitting t ≡ Value t
fitting-is t h = by (nat_le (depth_of t) MAX_DEPTH) refl
  where
    by : (b : Bool) → nat_le (depth_of t) MAX_DEPTH ≡ b → (if b then Value t else Broken TooDeep) ≡ Value t
    by true e = refl
    by false e = absurd (omega (arith, h, leb-false _ _ e))

pub fitting-deep : (t : Tree) → MAX_DEPTH < depth_of t → fitting t ≡ Broken TooDeep
fitting-deep t h = by (nat_le (depth_of t) MAX_DEPTH) refl
  where
    by : (b : Bool) → nat_le (depth_of t) MAX_DEPTH ≡ b → (if b then Value t else Broken TooDeep) ≡ Broken TooDeep
    by true e = absurd (omega (arith, h, leb-true _ _ e))
    by false e = refl

module _ (c n : ℕ) (stack : List Tree) where
  pub built-short : length stack < n → built_of c (popped n [] stack) ≡ Stops Faulty
  built-short h = ap (built_of c) (popped-short n stack h)

  pub built-is : (parts : List Tree) (r : Result) → n ≤ length stack → parts ≡ reverse (take n stack) → fitting (built c parts) ≡ r → built_of c (popped n [] stack) ≡ pushed (drop n stack) r
  built-is parts r h p e = ap (built_of c) (popped-is n stack h) ∙ ap (λ l. pushed (drop n stack) (fitting (built c l))) (sym p) ∙ ap (pushed (drop n stack)) e
