-- Sources judged: the first fault, as the reference tells it.
use Rattle.std.proofs.Common.{◌≡◌, refl, [], ◌∷◌, Some, None, codes}
use Rattle.campl_tree.specs.Plain.SeqType as s
use Rattle.campl_tree.specs.Plain.ChanType as c
use Rattle.campl_tree.specs.Plain.Process as b
use Rattle.campl_tree.specs.Plain.Decl as d
use Rattle.campl_tree.specs.Plain.Decl.{Program}
use Rattle.campl_linear.specs.Faults.{CaseMissing}
use Rattle.typed_sources.specs.Trees.{place, ident}
use Rattle.judged_sources.specs.Told.{protocol_line, told}
use Rattle.campl_seqcheck.specs.Judged.{Fails}

abbrev E46_source : Program
E46_source =
    (d.Protocol (record { place = (place 1 1); name = (ident 1 10 (codes "P")); parameters = ([]); local = (ident 1 15 (codes "S")); constructors = (protocol_line (ident 2 5 (codes "A")) c.TopBot (ident 2 20 (codes "S")) ∷ protocol_line (ident 3 5 (codes "B")) (c.Put s.Int (c.Named (place 3 20) (codes "S") s.no_types)) (ident 3 26 (codes "S")) ∷ []) })) ∷ (d.Process (record { place = (place 4 1); name = (ident 4 6 (codes "p")); parameters = ([]); inputs = ((c.Named (place 4 13) (codes "P") s.no_types) ∷ []); outputs = ([]); row = record { place = (place 5 5); variables = ([]); inputs = ((ident 5 7 (codes "c")) ∷ []); outputs = ([]); body = (b.Hcase (place 5 15) (ident 5 21 (codes "c")) (b.hcase_row_then (ident 6 9 (codes "A")) (b.Halt (place 6 14) (Some (ident 6 19 (codes "d")))) b.no_hcase_rows)) } })) ∷ (d.Process (record { place = (place 7 1); name = (ident 7 6 (codes "run")); parameters = ([]); inputs = ([]); outputs = ([]); row = record { place = (place 8 5); variables = ([]); inputs = ([]); outputs = ([]); body = (b.Halt (place 8 13) None) } })) ∷ []

E46_told : told E46_source ≡ Fails (CaseMissing (place 5 15) (codes "B"))
E46_told = refl
