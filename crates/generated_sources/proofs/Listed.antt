-- Code that was worked by hand.
use Rattle.std.specs.Prelude.{◌≡◌, refl, ℕ, pos, true, false, List, [], ◌∷◌, Some, None, codes}
use Rattle.campl_tree.specs.declared.expr.Arithmetic.TheVariants as a
use Rattle.campl_tree.specs.declared.expr.Comparison.TheVariants as c
use Rattle.campl_tree.specs.declared.service.Side.TheVariants.{Input}
use Rattle.campl_types.specs.Names.{Name}
use Rattle.campl_code.specs.Decisions.{Head, Row, Test, Fail, Decision}
use Rattle.campl_code.specs.Decisions as v
use Rattle.campl_code.specs.Instructions.{Instr, Block}
use Rattle.campl_code.specs.Instructions as i
use Rattle.campl_code_bodies.specs.SourceCode.{source_code}
use Rattle.typed_sources.specs.PrintsHello.{prints_hello}
use Rattle.typed_sources.specs.EndsTravel.{ends_travel}
use Rattle.typed_sources.specs.FirstRowWins.{first_row_wins}
use Rattle.typed_sources.specs.ChainOfStages.{chain_of_stages}

abbrev function : Name → ℕ → List Instr → Block
function name variables code = record { name = name; variables = variables; inputs = 0; outputs = 0; code = code }

abbrev process : Name → ℕ → ℕ → ℕ → List Instr → Block
process name variables inputs outputs code = record { name = name; variables = variables; inputs = inputs; outputs = outputs; code = code }

hello : source_code prints_hello ≡ record {
  functions = [];
  processes = process (codes "run") 0 1 0 (i.Pick 0 0 ∷ i.Text (codes "Hello") ∷ i.Put 0 ∷ i.Pick 0 2 ∷ i.Halt (Some 0) ∷ []) ∷ [];
  decisions = [];
}
hello = refl

-- a part that is peeled begins behind the rest, and so does a fork's second body
travel : source_code ends_travel ≡ record {
  functions = [];
  processes = process (codes "run") 0 2 0
      (i.Peel 2 Input 16
      ∷ i.Fork 2 3 4 9
      ∷ i.Get 3 0 ∷ i.Close 3 ∷ i.Pick 0 0 ∷ i.Load 0 ∷ i.Put 0 ∷ i.Pick 0 2 ∷ i.Halt (Some 0)
      ∷ i.Get 4 0 ∷ i.Close 4 ∷ i.Pick 1 0 ∷ i.Load 0 ∷ i.Put 1 ∷ i.Pick 1 2 ∷ i.Halt (Some 1)
      ∷ i.Split 2 3 4 ∷ i.Text (codes "right") ∷ i.Put 4 ∷ i.Close 4 ∷ i.Text (codes "left") ∷ i.Put 3 ∷ i.Halt (Some 3) ∷ [])
      ∷ [];
  decisions = [];
}
travel = refl

-- rows that never come stay in the code, and no test leads to them
first_wins : source_code first_row_wins ≡ record {
  functions = function (codes "name") 1 (i.Load 0 ∷ i.Match 0 0 (2 ∷ 4 ∷ []) ∷ i.Text (codes "any") ∷ i.Return ∷ i.Text (codes "red") ∷ i.Return ∷ []) ∷ [];
  processes = process (codes "run") 0 0 0 (i.Halt None ∷ []) ∷ [];
  decisions = record { width = 1; bound = 0 ∷ 0 ∷ []; tree = Row 0 [] } ∷ [];
}
first_wins = refl

abbrev truths : Decision
truths = record { width = 1; bound = 0 ∷ 0 ∷ []; tree = Test (0 ∷ []) (v.Truth true) (Row 0 []) (Test (0 ∷ []) (v.Truth false) (Row 1 []) Fail) }

-- functions before processes, calls, cases in both, and a plug of three parts
chain : source_code chain_of_stages ≡ record {
  functions = function (codes "show") 1
      (i.Load 0 ∷ i.Match 0 0 (2 ∷ [])
      ∷ i.Load 0 ∷ i.Int (pos 10) ∷ i.Op (i.Compare c.Less) ∷ i.Match 1 1 (6 ∷ 13 ∷ [])
      ∷ i.Int (pos 48) ∷ i.Load 0 ∷ i.Op (i.Calculate a.Add) ∷ i.Op i.CharOf ∷ i.Nil ∷ i.Cons ∷ i.Return
      ∷ i.Load 0 ∷ i.Int (pos 10) ∷ i.Op (i.Calculate a.Divide) ∷ i.Call 0
      ∷ i.Int (pos 48) ∷ i.Load 0 ∷ i.Int (pos 10) ∷ i.Op (i.Calculate a.Remainder) ∷ i.Op (i.Calculate a.Add) ∷ i.Op i.CharOf ∷ i.Nil ∷ i.Cons
      ∷ i.Op i.Append ∷ i.Return ∷ [])
      ∷ [];
  processes = process (codes "feed") 1 0 1
      (i.Load 0 ∷ i.Int (pos 0) ∷ i.Op (i.Compare c.Equal) ∷ i.Case 2 1 (4 ∷ 6 ∷ [])
      ∷ i.Pick 0 1 ∷ i.Halt (Some 0)
      ∷ i.Pick 0 0 ∷ i.Load 0 ∷ i.Put 0 ∷ i.Load 0 ∷ i.Int (pos 1) ∷ i.Op (i.Calculate a.Subtract) ∷ i.Go 0 (0 ∷ []) ∷ [])
      ∷ process (codes "step") 0 1 1
      (i.Offer 0 (1 ∷ 8 ∷ [])
      ∷ i.Get 0 0 ∷ i.Pick 1 0 ∷ i.Load 0 ∷ i.Int (pos 1) ∷ i.Op (i.Calculate a.Add) ∷ i.Put 1 ∷ i.Go 1 (0 ∷ 1 ∷ [])
      ∷ i.Close 0 ∷ i.Pick 1 1 ∷ i.Halt (Some 1) ∷ [])
      ∷ process (codes "chain") 1 1 1
      (i.Load 0 ∷ i.Int (pos 0) ∷ i.Op (i.Compare c.Equal) ∷ i.Case 3 1 (4 ∷ 5 ∷ [])
      ∷ i.Link 0 1
      ∷ i.Peel 2 Input 7 ∷ i.Go 1 (0 ∷ 2 ∷ [])
      ∷ i.Load 0 ∷ i.Int (pos 1) ∷ i.Op (i.Calculate a.Subtract) ∷ i.Go 2 (2 ∷ 1 ∷ []) ∷ [])
      ∷ process (codes "sum") 1 2 0
      (i.Offer 0 (1 ∷ 6 ∷ [])
      ∷ i.Get 0 1 ∷ i.Load 0 ∷ i.Load 1 ∷ i.Op (i.Calculate a.Add) ∷ i.Go 3 (0 ∷ 1 ∷ [])
      ∷ i.Close 0 ∷ i.Pick 1 0 ∷ i.Text (codes "sum ") ∷ i.Load 0 ∷ i.Call 0 ∷ i.Op i.Append ∷ i.Put 1 ∷ i.Pick 1 2 ∷ i.Halt (Some 1) ∷ [])
      ∷ process (codes "run") 0 1 0
      (i.Peel 1 Input 6 ∷ i.Peel 2 Input 4 ∷ i.Int (pos 10) ∷ i.Go 0 (2 ∷ [])
      ∷ i.Int (pos 1000) ∷ i.Go 2 (2 ∷ 1 ∷ [])
      ∷ i.Int (pos 0) ∷ i.Go 3 (1 ∷ 0 ∷ []) ∷ [])
      ∷ [];
  decisions = record { width = 1; bound = 1 ∷ []; tree = Row 0 ((0 ∷ []) ∷ []) } ∷ truths ∷ truths ∷ truths ∷ [];
}
chain = refl
