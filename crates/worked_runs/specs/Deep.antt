-- A source that prints a text of many letters.
use Rattle.std.specs.Prelude.{ℕ, zero, suc, List, [], ◌∷◌, Some, codes}
use Rattle.campl_tree.specs.Plain.Decl.{Program}
use Rattle.typed_sources.specs.Trees.{place, ident, ◌⨾◌}
use Rattle.campl_tree.specs.Plain.SeqType as s
use Rattle.campl_tree.specs.Plain.ChanType as c
use Rattle.campl_tree.specs.Plain.Expr as e
use Rattle.campl_tree.specs.Plain.Process as b
use Rattle.campl_tree.specs.Plain.Decl as d

-- as many letters
abbrev letters : ℕ → List ℕ
letters zero = []
letters (suc n) = 97 ∷ letters n

-- the source that prints Hello, with a text of so many letters in its place
abbrev pub prints_deep : ℕ → Program
prints_deep n =
    d.Process (record {
      place = place 1 1;
      name = ident 1 6 (codes "run");
      parameters = [];
      inputs = c.Named (place 1 15) (codes "Console") s.no_types ∷ [];
      outputs = [];
      row = record {
        place = place 2 5;
        variables = [];
        inputs = ident 2 7 (codes "console") ∷ [];
        outputs = [];
        body = b.Hput (place 3 9) (ident 3 14 (codes "ConsolePut")) (ident 3 28 (codes "console")) ⨾
            b.Put (place 4 9) (e.Text (place 4 13) (letters n)) (ident 4 24 (codes "console")) ⨾
            b.Hput (place 5 9) (ident 5 14 (codes "ConsoleClose")) (ident 5 30 (codes "console")) ⨾
            b.Halt (place 6 9) (Some (ident 6 14 (codes "console")));
      };
    })
    ∷ []
