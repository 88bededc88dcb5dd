-- Listings, as they are printed.
use Rattle.std.specs.Prelude.{◌≡◌, refl, ℕ, negsuc, true, false, List, [], ◌∷◌, ◌++◌, codes}
use Rattle.std.specs.Fmt.{digits}
use lib.Utf8
use Rattle.campl_tree.specs.declared.expr.Arithmetic.TheVariants as a
use Rattle.campl_tree.specs.declared.expr.Comparison.TheVariants as c
use Rattle.campl_tree.specs.declared.service.Side.TheVariants.{Input, Output}
use Rattle.campl_code.specs.Decisions.{Fail}
use Rattle.campl_code.specs.Instructions.{Code}
use Rattle.campl_code.specs.Instructions as i
use Rattle.campl_code.specs.Listing.{listing}
use Rattle.campl_code_bodies.specs.SourceCode.{source_code}
use Rattle.typed_sources.specs.PrintsHello.{prints_hello}
use Rattle.typed_sources.specs.FirstRowWins.{first_row_wins}

abbrev lines : List (List ℕ) → List ℕ
lines [] = []
lines (x ∷ xs) = x ++ (10 ∷ lines xs)

hello : listing (source_code prints_hello)
    ≡ lines
    (codes "process run 0 1 0"
    ∷ codes "  0 pick 0 0"
    ∷ codes "  1 text \"Hello\""
    ∷ codes "  2 put 0"
    ∷ codes "  3 pick 0 2"
    ∷ codes "  4 halt 0"
    ∷ [])
unfolding digits lib.Utf8.encode
hello = refl

first_wins : listing (source_code first_row_wins)
    ≡ lines
    (codes "function name 1"
    ∷ codes "  0 load 0"
    ∷ codes "  1 match 0 0 2,4"
    ∷ codes "  2 text \"any\""
    ∷ codes "  3 return"
    ∷ codes "  4 text \"red\""
    ∷ codes "  5 return"
    ∷ codes "process run 0 0 0"
    ∷ codes "  0 halt"
    ∷ codes "decision 0 rows 2"
    ∷ [])
unfolding digits lib.Utf8.encode
first_wins = refl

-- each instruction, whatever it would do there
abbrev each : Code
each = record {
  functions =
      record {
        name = codes "f";
        variables = 2;
        inputs = 0;
        outputs = 0;
        code = i.Int (negsuc 11) ∷ i.Char 10 ∷ i.Truth true ∷ i.Truth false ∷ i.Nil ∷ i.Text (34 ∷ 92 ∷ 9 ∷ 7 ∷ 228 ∷ []) ∷ i.Load 1 ∷ i.Cons ∷ i.Pair ∷ i.Build 1 2
            ∷ i.Op (i.Calculate a.Multiply) ∷ i.Op i.Negate ∷ i.Op (i.Compare c.Different) ∷ i.Op (i.Compare c.AtMost) ∷ i.Op (i.Compare c.Greater) ∷ i.Op (i.Compare c.AtLeast)
            ∷ i.Op i.Append ∷ i.Op i.CodeOf ∷ i.Jump 3 ∷ i.Unless 4 ∷ i.Call 0 ∷ i.Match 0 2 [] ∷ i.Return ∷ [];
      }
      ∷ [];
  processes =
      record {
        name = codes "p";
        variables = 0;
        inputs = 1;
        outputs = 2;
        code = i.Case 0 1 (5 ∷ 16 ∷ []) ∷ i.Get 0 1 ∷ i.Split 0 1 2 ∷ i.Close 1 ∷ i.Offer 0 (2 ∷ 3 ∷ 4 ∷ []) ∷ i.Fork 0 1 2 9 ∷ i.Link 0 1 ∷ i.LinkNeg 1 0
            ∷ i.Peel 3 Input 8 ∷ i.Peel 4 Output 10 ∷ i.Race (1 ∷ 2 ∷ []) ∷ i.Go 0 (1 ∷ 0 ∷ 2 ∷ []) ∷ i.Go 0 [] ∷ [];
      }
      ∷ [];
  decisions = record { width = 1; bound = []; tree = Fail } ∷ [];
}

of_each : listing each
    ≡ lines
    (codes "function f 2"
    ∷ codes "  0 int -12"
    ∷ codes "  1 char 10"
    ∷ codes "  2 bool True"
    ∷ codes "  3 bool False"
    ∷ codes "  4 nil"
    ∷ (codes "  5 text \"\\\"\\\\\\t\\u{7}" ++ (195 ∷ 164 ∷ codes "\""))
    ∷ codes "  6 load 1"
    ∷ codes "  7 cons"
    ∷ codes "  8 pair"
    ∷ codes "  9 build 1 2"
    ∷ codes "  10 op mul"
    ∷ codes "  11 op neg"
    ∷ codes "  12 op ne"
    ∷ codes "  13 op le"
    ∷ codes "  14 op gt"
    ∷ codes "  15 op ge"
    ∷ codes "  16 op append"
    ∷ codes "  17 op code"
    ∷ codes "  18 jump 3"
    ∷ codes "  19 unless 4"
    ∷ codes "  20 call 0"
    ∷ codes "  21 match 0 2 -"
    ∷ codes "  22 return"
    ∷ codes "process p 0 1 2"
    ∷ codes "  0 case 0 1 5,16"
    ∷ codes "  1 get 0 1"
    ∷ codes "  2 split 0 1 2"
    ∷ codes "  3 close 1"
    ∷ codes "  4 offer 0 2,3,4"
    ∷ codes "  5 fork 0 1 2 9"
    ∷ codes "  6 link 0 1"
    ∷ codes "  7 linkneg 1 0"
    ∷ codes "  8 peel 3 in 8"
    ∷ codes "  9 peel 4 out 10"
    ∷ codes "  10 race 1,2"
    ∷ codes "  11 go 0 1,0,2"
    ∷ codes "  12 go 0 -"
    ∷ codes "decision 0 rows 0"
    ∷ [])
unfolding digits lib.Utf8.encode
of_each = refl
