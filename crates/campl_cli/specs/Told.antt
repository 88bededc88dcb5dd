-- What is printed by an order with which nothing runs.
use Rattle.std.specs.Prelude.{◌≡◌, ℕ, List, [], ◌∷◌, ◌++◌, codes}
use Rattle.campl_tree.specs.declared.decl.Program.{Program}
use Rattle.campl_tree.specs.View.{view_program}
use Rattle.campl_code.specs.Listing.{listing}
use Rattle.campl_code_bodies.specs.SourceCode.{source_code}
use Rattle.campl_cli.specs.Refusals.{Files, HasText, HasScript}
use Rattle.campl_cli.specs.Source.{IsAcceptedAs}
use Rattle.campl_cli.specs.Scripts.{IsMigrated}

-- what the check of an accepted source prints
abbrev pub accepted_line : List ℕ
accepted_line = codes "accepted" ++ (10 ∷ [])

-- the text is accepted, and its code is listed so
abbrev pub ListsText : List ℕ → (output : List ℕ) → Type 0
ListsText text output = (program : Program) × IsAcceptedAs text program × (output ≡ listing (source_code (view_program program)))

-- the file's source is accepted, and its code is listed so
abbrev pub ListsFile : Files → (file output : List ℕ) → Type 0
ListsFile files file output = (text : List ℕ) × HasText files file text × ListsText text output

-- the file has a script, which is this in version 2
abbrev pub MigratesFile : Files → (file output : List ℕ) → Type 0
MigratesFile files file output = (text : List ℕ) × HasScript files file text × IsMigrated text output
