-- The view on a worked tree, that of this source:
--
--     proc run :: | Console => where
--         | console => -> do
--             hput ConsolePut on console
--             put "Hello" on console
--             hput ConsoleClose on console
--             halt console
use Rattle.std.proofs.Common.{◌≡◌, refl, ℕ, List, [], ◌∷◌, Some, codes}
use Rattle.campl_tree.proofs.Views.{views}
use Rattle.campl_tree.specs.Plain.ChanType as c
use Rattle.campl_tree.specs.Plain.Decl as d
use Rattle.campl_tree.specs.Plain.Expr as e
use Rattle.campl_tree.specs.Plain.Process as b
use Rattle.campl_tree.specs.Plain.SeqType as s
use Rattle.campl_tree.specs.View.{view_program}
use Rattle.campl_tree.specs.declared.decl.Decl.TheVariants as decl
use Rattle.campl_tree.specs.declared.decl.Program.{Program}
use Rattle.campl_tree.specs.declared.expr.Expr.TheVariants as expr
use Rattle.campl_tree.specs.declared.place.Ident.{Ident}
use Rattle.campl_tree.specs.declared.place.Place.{Place}
use Rattle.campl_tree.specs.declared.process.Action.TheVariants as action
use Rattle.campl_tree.specs.declared.process.Body.{roll-Body}
use Rattle.campl_tree.specs.declared.process.Last.TheVariants as last
use Rattle.campl_tree.specs.declared.types.ChanType.TheVariants as chan

abbrev place : ℕ → ℕ → Place
place line column = record { line = line; column = column }

abbrev ident : ℕ → ℕ → List ℕ → Ident
ident line column name = record { place = place line column; name = name }

-- what definitions see of its row
abbrev plain_row : d.ProcessRow
plain_row =
    record {
      place = place 2 5;
      variables = [];
      inputs = ident 2 7 (codes "console") ∷ [];
      outputs = [];
      body = b.Then (b.Hput (place 3 9) (ident 3 14 (codes "ConsolePut")) (ident 3 28 (codes "console")))
          (b.Then (b.Put (place 4 9) (e.Text (place 4 13) (codes "Hello")) (ident 4 24 (codes "console")))
          (b.Then (b.Hput (place 5 9) (ident 5 14 (codes "ConsoleClose")) (ident 5 30 (codes "console")))
          (b.Halt (place 6 9) (Some (ident 6 14 (codes "console"))))));
    }

-- and of all of it
abbrev plain_hello : d.Program
plain_hello =
    d.Process
    (record {
      place = place 1 1;
      name = ident 1 6 (codes "run");
      parameters = [];
      inputs = c.Named (place 1 15) (codes "Console") s.no_types ∷ [];
      outputs = [];
      row = plain_row;
    })
    ∷ []

-- what the parser gives
abbrev hello : Program
hello =
    record {
      declarations = decl.Process
          (record {
            place = place 1 1;
            name = ident 1 6 (codes "run");
            parameters = [];
            inputs = chan.Named (place 1 15) (codes "Console") [] ∷ [];
            outputs = [];
            row = record {
              place = place 2 5;
              variables = [];
              inputs = ident 2 7 (codes "console") ∷ [];
              outputs = [];
              body = roll-Body
                  (record {
                    actions = action.Hput (place 3 9) (ident 3 14 (codes "ConsolePut")) (ident 3 28 (codes "console"))
                        ∷ action.Put (place 4 9) (expr.Text (place 4 13) (codes "Hello")) (ident 4 24 (codes "console"))
                        ∷ action.Hput (place 5 9) (ident 5 14 (codes "ConsoleClose")) (ident 5 30 (codes "console"))
                        ∷ [];
                    last = last.Halt (place 6 9) (Some (ident 6 14 (codes "console")));
                  });
            };
          })
          ∷ [];
    }

view-hello : view_program hello ≡ plain_hello
view-hello = simp views refl
