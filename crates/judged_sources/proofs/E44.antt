-- Sources judged: the first fault, as the reference tells it.
use Rattle.std.proofs.Common.{◌≡◌, refl, [], ◌∷◌, Some, None, codes}
use Rattle.campl_tree.specs.Plain.SeqType as s
use Rattle.campl_tree.specs.Plain.ChanType as c
use Rattle.campl_tree.specs.Plain.Process as b
use Rattle.campl_tree.specs.Plain.Decl as d
use Rattle.campl_tree.specs.Plain.Decl.{Program}
use Rattle.campl_linear.specs.Faults.{PlugCycle}
use Rattle.typed_sources.specs.Trees.{place, ident, link, header}
use Rattle.judged_sources.specs.Told.{told}
use Rattle.campl_seqcheck.specs.Judged.{Fails}

abbrev before_E45_source : Program
before_E45_source =
    (d.Process (record { place = (place 1 1); name = (ident 1 6 (codes "run")); parameters = ([]); inputs = ((c.Named (place 1 15) (codes "Console") s.no_types) ∷ []); outputs = ([]); row = record { place = (place 2 5); variables = ([]); inputs = ((ident 2 7 (codes "k")) ∷ []); outputs = ([]); body = (b.Plug (place 2 15) (link (ident 2 20 (codes "c")) c.TopBot ∷ link (ident 2 33 (codes "d")) c.TopBot ∷ []) (b.part_then (header (place 3 9) ((ident 3 9 (codes "k")) ∷ []) ((ident 3 14 (codes "c")) ∷ (ident 3 17 (codes "d")) ∷ [])) (b.Halt (place 3 22) None) (b.part_then (header (place 4 9) ((ident 4 9 (codes "c")) ∷ (ident 4 12 (codes "d")) ∷ []) ([])) (b.Halt (place 4 20) None) (b.part_then (header (place 5 9) ([]) ([])) (b.Halt (place 5 15) None) b.no_parts)))) } })) ∷ []

before_E45_told : told before_E45_source ≡ Fails (PlugCycle (place 2 33) (codes "d"))
before_E45_told = refl

abbrev r07_cycle_source : Program
r07_cycle_source =
    (d.Process (record { place = (place 1 1); name = (ident 1 6 (codes "run")); parameters = ([]); inputs = ([]); outputs = ([]); row = record { place = (place 2 5); variables = ([]); inputs = ([]); outputs = ([]); body = (b.Plug (place 2 13) (link (ident 2 18 (codes "c")) c.TopBot ∷ link (ident 2 31 (codes "d")) c.TopBot ∷ []) (b.part_then (header (place 3 9) ([]) ((ident 3 12 (codes "c")) ∷ (ident 3 15 (codes "d")) ∷ [])) (b.Then (b.Close (place 4 13) (ident 4 19 (codes "c"))) (b.Halt (place 5 13) (Some (ident 5 18 (codes "d"))))) (b.part_then (header (place 6 9) ((ident 6 9 (codes "c")) ∷ (ident 6 12 (codes "d")) ∷ []) ([])) (b.Then (b.Close (place 7 13) (ident 7 19 (codes "c"))) (b.Halt (place 8 13) (Some (ident 8 18 (codes "d"))))) b.no_parts))) } })) ∷ []

r07_cycle_told : told r07_cycle_source ≡ Fails (PlugCycle (place 2 31) (codes "d"))
r07_cycle_told = refl
