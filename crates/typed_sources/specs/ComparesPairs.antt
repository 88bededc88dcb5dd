-- The tree of this source:
--
--     fun same :: Int -> Bool where
--         n -> (n, n) == (n, n)
--     proc run :: | => where
--         | => -> halt
use Rattle.std.specs.Prelude.{[], ◌∷◌, None, codes}
use Rattle.campl_tree.specs.Plain.Decl.{Program}
use Rattle.typed_sources.specs.Trees.{place, ident, function_row}
use Rattle.campl_tree.specs.declared.expr.Comparison.TheVariants as compare
use Rattle.campl_tree.specs.Plain.SeqType as s
use Rattle.campl_tree.specs.Plain.Pattern as p
use Rattle.campl_tree.specs.Plain.Expr as e
use Rattle.campl_tree.specs.Plain.Process as b
use Rattle.campl_tree.specs.Plain.Decl as d

abbrev pub same_function : d.FunctionDecl
same_function =
    record {
      place = place 1 1;
      name = ident 1 5 (codes "same");
      parameters = s.Int ∷ [];
      result = s.Bool;
      rows = function_row (place 2 5) (p.pattern_then (p.Variable (place 2 5) (codes "n")) p.no_patterns) (e.Compare (place 2 10) (e.Pair (place 2 10) (e.Variable (place 2 11) (codes "n")) (e.Variable (place 2 14) (codes "n"))) compare.Equal (e.Pair (place 2 20) (e.Variable (place 2 21) (codes "n")) (e.Variable (place 2 24) (codes "n"))))
          ∷ [];
    }

abbrev pub run_process : d.ProcessDecl
run_process =
    record {
      place = place 3 1;
      name = ident 3 6 (codes "run");
      parameters = [];
      inputs = [];
      outputs = [];
      row = record {
        place = place 4 5;
        variables = [];
        inputs = [];
        outputs = [];
        body = b.Halt (place 4 13) None;
      };
    }

abbrev pub compares_pairs : Program
compares_pairs = d.Function same_function ∷ d.Process run_process ∷ []
