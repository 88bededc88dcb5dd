-- Worked derivations of typing.
use Rattle.std.proofs.Common.{◌≡◌, ◌∙◌, if◌then◌else◌, refl, pos, Bool, true, false, ◌||◌, [], ◌∷◌, Some, None, codes}
use Rattle.campl_tree.specs.declared.service.Side.TheVariants.{Input, Output}
use Rattle.campl_tree.specs.Plain.SeqType as s
use Rattle.campl_tree.specs.Plain.SeqType.{SeqType}
use Rattle.campl_tree.specs.Plain.ChanType.{ChanType, Tensor, TopBot}
use Rattle.campl_tree.specs.Plain.Expr as e
use Rattle.campl_tree.specs.Plain.Process as b
use Rattle.campl_types.specs.Names.{Name, same_name, is_among}
use Rattle.campl_types.specs.Prelude.{prelude}
use Rattle.campl_types.specs.Held.{Held, On, nothing_held, with}
use Rattle.campl_types.specs.Sequential.{IsFoundToHave, MayBeChecked}
use Rattle.campl_types.specs.Linear.{IsWellFormed}
use Rattle.campl_types.proofs.Names.{same-turned}
use Rattle.typing_examples.proofs.Sources.{place, ident, protocol}

-- 1 : []
one-item : MayBeChecked prelude [] (e.Cons (place 1 1) (e.Number (place 1 1) (pos 1)) (e.List (place 1 5) e.no_exprs)) (s.List s.Int)
one-item = (s.Int, refl, refl, (s.Int, refl))

-- it is found too, since its first part is
one-item-found : IsFoundToHave prelude [] (e.Cons (place 1 1) (e.Number (place 1 1) (pos 1)) (e.List (place 1 5) e.no_exprs)) (s.List s.Int)
one-item-found = (s.Int, refl, refl, (s.Int, refl))

-- [] alone isn't
empty-not-found : (t : SeqType) → IsFoundToHave prelude [] (e.List (place 1 1) e.no_exprs) t → ⊥
empty-not-found t i = i

-- one channel is held alone
not-among : (x y : Name) → is_among y (x ∷ []) ≡ false → same_name x y ≡ false
not-among x y i = same-turned x y ∙ go (same_name y x) i
  where
    go : (p : Bool) → (p || false) ≡ false → p ≡ false
    go false j = refl
    go true j = j

holds : Name → ChanType → Held
holds x t = with x (Some (On Input t)) nothing_held

-- hput ConsolePut on k
-- put "x" on k
-- hput ConsoleClose on k
-- halt k
speaks : IsWellFormed prelude [] (holds (codes "k") (protocol 1 1 (codes "Console"))) (b.Then (b.Hput (place 1 1) (ident 1 6 (codes "ConsolePut")) (ident 1 20 (codes "k"))) (b.Then (b.Put (place 2 1) (e.Text (place 2 5) (codes "x")) (ident 2 12 (codes "k"))) (b.Then (b.Hput (place 3 1) (ident 3 6 (codes "ConsoleClose")) (ident 3 22 (codes "k"))) (b.Halt (place 4 1) (Some (ident 4 6 (codes "k")))))))
unfolding holds
speaks =
    (_, _, _, _, refl, refl, refl, (_, _, _, _, refl, refl, refl, (_, _, _, _, refl, refl, refl, (_, _, refl, refl, λ y i. rw (not-among (codes "k") y i) refl))))

-- fork x as
--     a -> halt a
--     b -> halt b
forks : IsWellFormed prelude [] (with (codes "x") (Some (On Output (Tensor TopBot TopBot))) nothing_held) (b.Fork (place 1 1) (ident 1 6 (codes "x")) (ident 2 5 (codes "a")) (b.Halt (place 2 10) (Some (ident 2 15 (codes "a")))) (ident 3 5 (codes "b")) (b.Halt (place 3 10) (Some (ident 3 15 (codes "b")))))
forks =
    (λ y. true, (_, _, _, _, refl, refl, (refl, refl, refl), (_, _, refl, refl, λ y i. rw (not-among (codes "a") y i) (kept y)), (_, _, refl, refl, λ y i. rw (not-among (codes "b") y i) refl)))
  where
    kept : (y : Name) → with (codes "x") None (with (codes "x") (Some (On Output (Tensor TopBot TopBot))) nothing_held) y ≡ None
    kept y = go (same_name (codes "x") y)
      where
        go : (p : Bool) → (if◌then◌else◌ p None (if◌then◌else◌ p (Some (On Output (Tensor TopBot TopBot))) None)) ≡ None
        go true = refl
        go false = refl
