-- Evaluations that compute.
use Rattle.std.proofs.Common.{◌≡◌, refl, ℕ, zero, suc, pos, [], ◌∷◌, List, codes}
use Rattle.campl_tree.specs.declared.place.Ident.{Ident}
use Rattle.campl_tree.specs.declared.expr.Arithmetic.TheVariants as op
use Rattle.campl_tree.specs.Plain.SeqType as s
use Rattle.campl_tree.specs.Plain.Pattern as p
use Rattle.campl_tree.specs.Plain.Expr as e
use Rattle.campl_tree.specs.Plain.Decl as d
use Rattle.campl_value.specs.Tree as v
use Rattle.campl_types.specs.SameType.{nowhere}
use Rattle.campl_types.specs.Names.{Name}
use Rattle.campl_types.specs.Sequential.{RowIsTyped}
use Rattle.campl_types.specs.World.{World, world_of}
use Rattle.campl_evaluation.specs.Evaluation.{Done, Deep, Wrong, More, made, value_of}

abbrev ident : Name → Ident
ident x = record { place = nowhere; name = x }

abbrev constructor : Name → List s.SeqType → d.DataConstructor
constructor x ts = record { name = ident x; parts = ts }

abbrev row : p.Patterns → e.Expr → d.FunctionRow
row ps a = record { place = nowhere; patterns = ps; value = a }

abbrev a : s.SeqType
a = s.Variable nowhere (codes "a")

abbrev nest : s.SeqType → s.SeqType
nest t = s.Named nowhere (codes "Nest") (s.type_then t s.no_types)

abbrev x : Name → e.Expr
x y = e.Variable nowhere y

abbrev call : Name → e.Expr → e.Expr
call f y = e.Call nowhere f (e.expr_then y e.no_exprs)

abbrev int : ℕ → e.Expr
int n = e.Number nowhere (pos n)

-- fun depth :: Nest(a) -> Int where
--     Stop -> 0
--     Go(_, n) -> 1 + depth(n)
abbrev deeper : d.FunctionRow
deeper =
    row (p.pattern_then (p.Constructor nowhere (codes "Go") (p.pattern_then (p.Wildcard nowhere) (p.pattern_then (p.Variable nowhere (codes "n")) p.no_patterns))) p.no_patterns)
    (e.Calculate nowhere (int 1) op.Add (call (codes "depth") (x (codes "n"))))

abbrev depth : d.FunctionDecl
depth =
    record {
      place = nowhere;
      name = ident (codes "depth");
      parameters = nest a ∷ [];
      result = s.Int;
      rows = row (p.pattern_then (p.Constructor nowhere (codes "Stop") p.no_patterns) p.no_patterns) (int 0) ∷ deeper ∷ [];
    }

-- data Nest(a) where
--     Stop
--     Go(a, Nest((a, a)))
abbrev source : d.Program
source =
    d.Data (record {
      place = nowhere;
      name = ident (codes "Nest");
      parameters = ident (codes "a") ∷ [];
      constructors = constructor (codes "Stop") [] ∷ constructor (codes "Go") (a ∷ nest (s.Pair a a) ∷ []) ∷ [];
    })
    ∷ d.Function depth ∷ []

abbrev w : World
w = world_of source

abbrev stop : e.Expr
stop = e.Constructor nowhere (codes "Stop") e.no_exprs

abbrev go : e.Expr → e.Expr → e.Expr
go y n = e.Constructor nowhere (codes "Go") (e.expr_then y (e.expr_then n e.no_exprs))

abbrev two : e.Expr
two = go (int 1) (go (e.Pair nowhere (int 2) (int 3)) stop)

goes : value_of w two [] 0 ≡ Done (v.Built 1 (v.more (v.Int (pos 1)) (v.more (v.Built 1 (v.more (v.Pair (v.Int (pos 2)) (v.Int (pos 3))) (v.more (v.Built 0 v.none) v.none))) v.none))) 0
goes = refl

three-calls : value_of w (call (codes "depth") two) [] 3 ≡ Done (v.Int (pos 2)) 0
three-calls = refl

two-calls : value_of w (call (codes "depth") two) [] 2 ≡ More
two-calls = refl

unknown : value_of w (call (codes "none") (int 1)) [] 5 ≡ Wrong 5
unknown = refl

no-row : value_of w (call (codes "depth") (int 1)) [] 5 ≡ Wrong 4
no-row = refl

-- a polymorphic recursion has its type
recursion : RowIsTyped w depth deeper
recursion = ((codes "n", nest (s.Pair a a)) ∷ [], refl, refl, (refl, refl, (depth, refl, (s.Pair a a ∷ [], refl, refl, ((nest (s.Pair a a), refl, refl), tt), tt))))

-- a value of depth 4,096 is made, and one of depth 4,097 is too deep
abbrev tower : ℕ → v.Tree
tower zero = v.Nil
tower (suc n) = v.Cell v.Nil (tower n)

deep-enough : made (tower 4095) 0 ≡ Done (tower 4095) 0
deep-enough = refl

too-deep : made (tower 4096) 0 ≡ Deep 0
too-deep = refl
