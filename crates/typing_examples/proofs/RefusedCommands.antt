-- Commands that aren't well formed.
use Rattle.std.proofs.Common.{◌≡◌, ℕ, zero, suc, refl, subst, pos, arith, Bool, true, false, not, [], ◌∷◌, Some, None, if◌then◌else◌, codes}
use Rattle.campl_tree.specs.declared.place.Ident.{Ident}
use Rattle.campl_tree.specs.declared.process.Binder.TheVariants as binder
use Rattle.campl_tree.specs.declared.service.Side.{Side}
use Rattle.campl_tree.specs.declared.service.Side.TheVariants.{Input, Output}
use Rattle.campl_tree.specs.Plain.SeqType as s
use Rattle.campl_tree.specs.Plain.ChanType.{ChanType, Put, Tensor, Par, TopBot, Neg}
use Rattle.campl_tree.specs.Plain.SeqType.{SeqType}
use Rattle.campl_tree.specs.Plain.Pattern as p
use Rattle.campl_tree.specs.Plain.Expr as e
use Rattle.campl_types.specs.SameType.{bare}
use Rattle.campl_types.specs.Missing.{missing}
use Rattle.campl_types.specs.Sequential.{HasType, Checked}
use Rattle.campl_tree.specs.Plain.Process as b
use Rattle.campl_types.specs.Fits.{Vars}
use Rattle.campl_types.specs.World.{World, world_of}
use Rattle.campl_types.specs.Prelude.{prelude}
use Rattle.campl_types.specs.Held.{Channel, On, Held, nothing_held, with}
use Rattle.campl_types.specs.Linear.{IsWellFormed, HasEachOnce, body_rows}
use Rattle.typing_examples.proofs.Sources.{place, ident, protocol, protocol_decl, line}
use Rattle.typing_examples.proofs.Commands.{one-deed}

abbrev x : Ident
x = ident 1 6 (codes "x")

abbrev y : Ident
y = ident 1 9 (codes "y")

-- x alone is held
abbrev one : Side → ChanType → Held
one side t = with (codes "x") (Some (On side t)) nothing_held

-- x and y are held
abbrev two : Side → ChanType → Side → ChanType → Held
two side t other u = with (codes "x") (Some (On side t)) (with (codes "y") (Some (On other u)) nothing_held)

abbrev number : ChanType
number = Put s.Int TopBot

-- Actions

-- the channel that an action uses
abbrev channel-of : b.Action → Ident
channel-of (b.Put at a c) = c
channel-of (b.Get at v c) = c
channel-of (b.Hput at k c) = c
channel-of (b.Split at c y z) = c
channel-of (b.Close at c) = c

-- no action uses what isn't held
unheld : (w : World) (vs : Vars) (held : Held) (a : b.Action) (rest : b.Body) → held (channel-of a).name ≡ None → IsWellFormed w vs held (b.Then a rest) → ⊥
unheld w vs held (b.Put at a c) rest h (r, u, t, v, i, j, value, more) = cc (h, i)
unheld w vs held (b.Get at n c) rest h (r, u, t, v, i, j, more) = cc (h, i)
unheld w vs held (b.Hput at k c) rest h (r, u, cs, v, i, j, l, more) = cc (h, i)
unheld w vs held (b.Split at c y z) rest h (r, u, t, v, i, j, new, more) = cc (h, i)
unheld w vs held (b.Close at c) rest h (r, u, i, j, more) = cc (h, i)

-- put 'a' on x, where a number is due
other-value : IsWellFormed prelude [] (one Output number) (b.Then (b.Put (place 1 1) (e.Character (place 1 5) 97) x) (b.Halt (place 2 1) (Some x))) → ⊥
other-value (r, u, t, v, i, j, value, rest) = let k : t ≡ s.Int = cc (one-deed prelude i j) in cc (subst (HasType Checked prelude [] (e.Character (place 1 5) 97)) k value)

-- get v on x, where nothing but identity may be
negated : IsWellFormed prelude [] (one Input (Neg number)) (b.Then (b.Get (place 1 1) (binder.Wildcard (place 1 5)) x) (b.Halt (place 2 1) (Some x))) → ⊥
negated (r, u, t, v, i, j, rest) = cc (one-deed prelude i j)

-- close x and halt x, where a number is due
closed-early : IsWellFormed prelude [] (one Input number) (b.Then (b.Close (place 1 1) x) (b.Halt (place 2 1) None)) → ⊥
closed-early (r, u, i, j, rest) = cc (one-deed prelude i j)

halted-early : IsWellFormed prelude [] (one Input number) (b.Halt (place 1 1) (Some x)) → ⊥
halted-early (r, u, i, j, alone) = cc (one-deed prelude i j)

-- halt, where x is held
left-over : IsWellFormed prelude [] (one Input TopBot) (b.Halt (place 1 1) None) → ⊥
left-over alone = cc (alone (codes "x") refl)

-- Cases

-- case True of
--     True -> halt x
abbrev halts : b.Body
halts = b.Halt (place 9 9) (Some x)

abbrev true-row : b.CaseRows
true-row = b.case_row_then (p.True (place 2 5)) halts b.no_case_rows

is-Bool : (u : SeqType) → bare u ≡ s.Bool → u ≡ s.Bool
is-Bool s.Int i = cc i
is-Bool s.Char i = cc i
is-Bool s.Bool i = refl
is-Bool (s.List t) i = cc i
is-Bool (s.Pair t u) i = cc i
is-Bool (s.Named at x us) i = cc i
is-Bool (s.Variable at x) i = cc i

true-alone : IsWellFormed prelude [] (one Input TopBot) (b.Case (place 1 1) (e.True (place 1 6)) true-row) → ⊥
true-alone (u, i, rows, all) = cc (subst (λ u. missing prelude (body_rows true-row) (u ∷ []) ≡ None) (is-Bool u i) all)

-- case (1, 2) of
--     (n, n) -> halt x
name-twice : IsWellFormed prelude [] (one Input TopBot) (b.Case (place 1 1) (e.Pair (place 1 6) (e.Number (place 1 7) (pos 1)) (e.Number (place 1 10) (pos 2))) (b.case_row_then (p.Pair (place 2 5) (p.Variable (place 2 6) (codes "n")) (p.Variable (place 2 9) (codes "n"))) halts b.no_case_rows)) → ⊥
name-twice (u, i, (vs, fit, names, body, rest), all) = cc names

-- Races

-- get v on x
-- halt x
abbrev gets : b.Body
gets = b.Then (b.Get (place 3 9) (binder.Variable (place 3 13) (codes "v")) x) (b.Halt (place 4 9) (Some x))

-- race
--     x -> do
--         get v on x
--         halt x
one-branch : IsWellFormed prelude [] (one Input number) (b.Race (place 1 1) (b.branch_then x gets b.no_branches)) → ⊥
one-branch ((few, many), names, rows) = omega arith

-- a branch for y begins by receiving on x
other-receipt : IsWellFormed prelude [] (two Input number Input number) (b.Race (place 1 1) (b.branch_then x gets (b.branch_then y gets b.no_branches))) → ⊥
other-receipt (count, names, (receives, body, (other, last, rest))) = cc other

-- and a branch that sends by no receipt at all
abbrev sends : b.Body
sends = b.Then (b.Put (place 3 9) (e.Number (place 3 13) (pos 1)) x) (b.Halt (place 4 9) (Some x))

no-receipt : IsWellFormed prelude [] (two Output number Input number) (b.Race (place 1 1) (b.branch_then x sends (b.branch_then y gets b.no_branches))) → ⊥
no-receipt (count, names, (receives, body, rest)) = cc receives

-- two branches for x
branch-twice : IsWellFormed prelude [] (one Input number) (b.Race (place 1 1) (b.branch_then x gets (b.branch_then x gets b.no_branches))) → ⊥
branch-twice (count, names, rest) = cc names

-- 17 branches are too many
abbrev branches : ℕ → b.Branches
branches zero = b.no_branches
branches (suc n) = b.branch_then x gets (branches n)

too-many-branches : IsWellFormed prelude [] (one Input number) (b.Race (place 1 1) (branches 17)) → ⊥
too-many-branches ((few, many), names, rows) = omega arith

-- Choices, of
--
--     protocol Bit => S where
--         Zero :: TopBot => S
--         One :: TopBot => S
abbrev bits : World
bits =
    world_of
    (protocol_decl 1 (ident 1 10 (codes "Bit")) [] (ident 1 17 (codes "S"))
    (line (ident 2 5 (codes "Zero")) TopBot (ident 2 23 (codes "S")) ∷ line (ident 3 5 (codes "One")) TopBot (ident 3 22 (codes "S")) ∷ [])
    ∷ [])

abbrev bit : ChanType
bit = protocol 5 1 (codes "Bit")

abbrev zero-row : b.HcaseRows → b.HcaseRows
zero-row = b.hcase_row_then (ident 2 5 (codes "Zero")) (b.Halt (place 2 13) (Some x))

-- hcase x of
--     Zero -> halt x
-- says nothing of One
row-missing : IsWellFormed bits [] (one Input bit) (b.Hcase (place 1 1) x (zero-row b.no_hcase_rows)) → ⊥
row-missing (r, u, cs, i, j, each, rows, some) =
    let k : cs ≡ (codes "Zero", TopBot) ∷ (codes "One", TopBot) ∷ [] = cc (one-deed bits i j) in
    cc (subst (HasEachOnce (zero-row b.no_hcase_rows)) k each).1

-- hcase x of
--     Zero -> halt x
--     Zero -> halt x
row-twice : IsWellFormed bits [] (one Input bit) (b.Hcase (place 1 1) x (zero-row (zero-row b.no_hcase_rows))) → ⊥
row-twice (r, u, cs, i, j, (different, all), rows, some) = cc different

-- hcase x of
--     Zero -> halt x
--     One -> halt x
--     ConsoleClose -> halt x
other-row : IsWellFormed bits [] (one Input bit) (b.Hcase (place 1 1) x (zero-row (b.hcase_row_then (ident 3 5 (codes "One")) (b.Halt (place 3 12) (Some x)) (b.hcase_row_then (ident 4 5 (codes "ConsoleClose")) (b.Halt (place 4 21) (Some x)) b.no_hcase_rows)))) → ⊥
other-row (r, u, cs, i, j, each, (t, k, body, (v, l, other, (z, m, third, rest))), some) = cc (one-deed bits i j, m)

-- hput One on x, where a choice is awaited
awaited : IsWellFormed bits [] (one Input bit) (b.Then (b.Hput (place 1 1) (ident 1 6 (codes "One")) x) (b.Halt (place 2 1) (Some x))) → ⊥
awaited (r, u, cs, z, i, j, k, rest) = cc (one-deed bits i j)

-- hput ConsoleClose on x, whose type is Bit
other-type : IsWellFormed bits [] (one Output bit) (b.Then (b.Hput (place 1 1) (ident 1 6 (codes "ConsoleClose")) x) (b.Halt (place 2 1) (Some x))) → ⊥
other-type (r, u, cs, z, i, j, k, rest) = cc (one-deed bits i j, k)

-- Two new channels

-- fork x as
--     a -> halt a
--     b -> halt b
-- forgets y
forgets : IsWellFormed prelude [] (two Output (Tensor TopBot TopBot) Input TopBot) (b.Fork (place 1 1) x (ident 2 5 (codes "a")) (b.Halt (place 2 10) (Some (ident 2 15 (codes "a")))) (ident 3 5 (codes "b")) (b.Halt (place 3 10) (Some (ident 3 15 (codes "b"))))) → ⊥
forgets (keep, (r, u, t, v, i, j, new, (ra, ua, ia, ja, left), (rb, ub, ib, jb, right))) = somewhere (keep (codes "y")) _ (left (codes "y") refl) (right (codes "y") refl)
  where
    somewhere : (p : Bool) (c : Channel) → (if p then Some c else None) ≡ None → (if not p then Some c else None) ≡ None → ⊥
    somewhere true c k l = cc k
    somewhere false c k l = cc l

-- split x into a, a
one-name : IsWellFormed prelude [] (one Output (Par TopBot TopBot)) (b.Then (b.Split (place 1 1) x (ident 1 14 (codes "a")) (ident 1 17 (codes "a"))) (b.Halt (place 2 1) (Some (ident 2 6 (codes "a"))))) → ⊥
one-name (r, u, t, v, i, j, (free, other, different), rest) = cc different

-- split x into a, y, where y is held
hides : IsWellFormed prelude [] (two Output (Par TopBot TopBot) Input TopBot) (b.Then (b.Split (place 1 1) x (ident 1 14 (codes "a")) y) (b.Halt (place 2 1) (Some y))) → ⊥
hides (r, u, t, v, i, j, (free, other, different), rest) = cc other

-- Identity

-- x |=| y, both of them inputs
one-side : IsWellFormed prelude [] (two Input number Input number) (b.Identity (place 1 1) (codes "x") false y) → ⊥
one-side (r, t, q, u, i, j, k, (l, m), alone) = cc (i, j, l)

-- x |=| neg y, on opposite sides
opposite-sides : IsWellFormed prelude [] (two Input (Neg number) Output number) (b.Identity (place 1 1) (codes "x") true y) → ⊥
opposite-sides (r, t, q, u, i, j, k, (l, m), alone) = cc (i, j, l)

-- x |=| neg y, where y and not x is negated
other-negated : IsWellFormed prelude [] (two Input number Input (Neg number)) (b.Identity (place 1 1) (codes "x") true y) → ⊥
other-negated (r, t, q, u, i, j, k, (l, m), alone) = cc (i, m)

-- x |=| x
itself : IsWellFormed prelude [] (one Input TopBot) (b.Identity (place 1 1) (codes "x") false x) → ⊥
itself (r, t, q, u, i, j, k, joined, alone) = cc k
