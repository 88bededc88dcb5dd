-- Worked examples.
use Rattle.std.proofs.Common.{◌≡◌, refl, codes, Ok, Err, []}
use Rattle.campl_service.specs.declared.fault.ScriptFault.TheVariants.{NoColon}
use Rattle.campl_service.specs.Migration.{migrated}
use Rattle.campl_migrate_laws.specs.Kept.{moved_by}

-- in version 1 a backslash stands for itself
a_backslash : migrated (codes "console: a\\tb") ≡ Ok (codes "campl script 2\nconsole: a\\\\tb\n")
a_backslash = refl

-- empty lines stay, and the space behind the colon is there
some_lines : migrated (codes "a:1\r\n\nb:  2") ≡ Ok (codes "campl script 2\na: 1\n\nb:  2\n")
some_lines = refl

-- version 2 stays what it is
version_two : migrated (codes "campl script 2\na:\\u{9}") ≡ Ok (codes "campl script 2\na: \\t\n")
version_two = refl

nothing : migrated [] ≡ Ok (codes "campl script 2\n")
nothing = refl

no_colon : migrated (codes "\nhi") ≡ Err (NoColon 2)
no_colon = refl

moved : moved_by (codes "a: 1") ≡ 1
moved = refl

not_moved : moved_by (codes "campl script 2\r\na: 1") ≡ 0
not_moved = refl
