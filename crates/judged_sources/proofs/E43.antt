-- Sources judged: the first fault, as the reference tells it.
use Rattle.std.proofs.Common.{◌≡◌, refl, [], ◌∷◌, None, codes}
use Rattle.campl_tree.specs.Plain.SeqType as s
use Rattle.campl_tree.specs.Plain.ChanType as c
use Rattle.campl_tree.specs.Plain.Process as b
use Rattle.campl_tree.specs.Plain.Decl as d
use Rattle.campl_tree.specs.Plain.Decl.{Program}
use Rattle.campl_linear.specs.Faults.{PlugUse}
use Rattle.typed_sources.specs.Trees.{place, ident, link, header}
use Rattle.judged_sources.specs.Told.{told}
use Rattle.campl_seqcheck.specs.Judged.{Fails}

abbrev before_E41_source : Program
before_E41_source =
    (d.Process (record { place = (place 1 1); name = (ident 1 6 (codes "run")); parameters = ([]); inputs = ((c.Named (place 1 15) (codes "Console") s.no_types) ∷ []); outputs = ([]); row = record { place = (place 2 5); variables = ([]); inputs = ((ident 2 7 (codes "k")) ∷ []); outputs = ([]); body = (b.Plug (place 2 15) (link (ident 2 20 (codes "c")) c.TopBot ∷ []) (b.part_then (header (place 3 9) ([]) ((ident 3 12 (codes "c")) ∷ [])) (b.Halt (place 3 17) None) (b.part_then (header (place 4 9) ([]) ([])) (b.Halt (place 4 15) None) b.no_parts))) } })) ∷ []

before_E41_told : told before_E41_source ≡ Fails (PlugUse (place 2 20) (codes "c"))
before_E41_told = refl

abbrev held_twice_source : Program
held_twice_source =
    (d.Process (record { place = (place 1 1); name = (ident 1 6 (codes "run")); parameters = ([]); inputs = ((c.Named (place 1 15) (codes "Console") s.no_types) ∷ []); outputs = ([]); row = record { place = (place 2 5); variables = ([]); inputs = ((ident 2 7 (codes "k")) ∷ []); outputs = ([]); body = (b.Plug (place 2 15) (link (ident 2 20 (codes "c")) c.TopBot ∷ []) (b.part_then (header (place 3 9) ((ident 3 9 (codes "k")) ∷ []) ((ident 3 14 (codes "c")) ∷ [])) (b.Halt (place 3 19) None) (b.part_then (header (place 4 9) ((ident 4 9 (codes "k")) ∷ (ident 4 12 (codes "c")) ∷ []) ([])) (b.Halt (place 4 20) None) b.no_parts))) } })) ∷ []

held_twice_told : told held_twice_source ≡ Fails (PlugUse (place 4 9) (codes "k"))
held_twice_told = refl

abbrev link_twice_source : Program
link_twice_source =
    (d.Process (record { place = (place 1 1); name = (ident 1 6 (codes "run")); parameters = ([]); inputs = ((c.Named (place 1 15) (codes "Console") s.no_types) ∷ []); outputs = ([]); row = record { place = (place 2 5); variables = ([]); inputs = ((ident 2 7 (codes "k")) ∷ []); outputs = ([]); body = (b.Plug (place 2 15) (link (ident 2 20 (codes "c")) c.TopBot ∷ link (ident 2 33 (codes "c")) c.TopBot ∷ []) (b.part_then (header (place 3 9) ([]) ((ident 3 12 (codes "c")) ∷ [])) (b.Halt (place 3 17) None) (b.part_then (header (place 4 9) ([]) ((ident 4 12 (codes "d")) ∷ [])) (b.Halt (place 4 17) None) b.no_parts))) } })) ∷ []

link_twice_told : told link_twice_source ≡ Fails (PlugUse (place 2 33) (codes "c"))
link_twice_told = refl

abbrev one_part_source : Program
one_part_source =
    (d.Process (record { place = (place 1 1); name = (ident 1 6 (codes "run")); parameters = ([]); inputs = ((c.Named (place 1 15) (codes "Console") s.no_types) ∷ []); outputs = ([]); row = record { place = (place 2 5); variables = ([]); inputs = ((ident 2 7 (codes "k")) ∷ []); outputs = ([]); body = (b.Plug (place 2 15) (link (ident 2 20 (codes "c")) c.TopBot ∷ []) (b.part_then (header (place 3 9) ((ident 3 9 (codes "c")) ∷ (ident 3 12 (codes "k")) ∷ []) ((ident 3 17 (codes "c")) ∷ [])) (b.Halt (place 3 22) None) (b.part_then (header (place 4 9) ([]) ([])) (b.Halt (place 4 15) None) b.no_parts))) } })) ∷ []

one_part_told : told one_part_source ≡ Fails (PlugUse (place 3 17) (codes "c"))
one_part_told = refl

abbrev one_use_source : Program
one_use_source =
    (d.Process (record { place = (place 1 1); name = (ident 1 6 (codes "run")); parameters = ([]); inputs = ((c.Named (place 1 15) (codes "Console") s.no_types) ∷ []); outputs = ([]); row = record { place = (place 2 5); variables = ([]); inputs = ((ident 2 7 (codes "k")) ∷ []); outputs = ([]); body = (b.Plug (place 2 15) (link (ident 2 20 (codes "c")) c.TopBot ∷ link (ident 2 33 (codes "d")) c.TopBot ∷ []) (b.part_then (header (place 3 9) ([]) ((ident 3 12 (codes "c")) ∷ (ident 3 15 (codes "d")) ∷ [])) (b.Halt (place 3 20) None) (b.part_then (header (place 4 9) ((ident 4 9 (codes "c")) ∷ []) ([])) (b.Halt (place 4 17) None) b.no_parts))) } })) ∷ []

one_use_told : told one_use_source ≡ Fails (PlugUse (place 2 33) (codes "d"))
one_use_told = refl

abbrev same_side_source : Program
same_side_source =
    (d.Process (record { place = (place 1 1); name = (ident 1 6 (codes "run")); parameters = ([]); inputs = ((c.Named (place 1 15) (codes "Console") s.no_types) ∷ []); outputs = ([]); row = record { place = (place 2 5); variables = ([]); inputs = ((ident 2 7 (codes "k")) ∷ []); outputs = ([]); body = (b.Plug (place 2 15) (link (ident 2 20 (codes "c")) c.TopBot ∷ []) (b.part_then (header (place 3 9) ((ident 3 9 (codes "k")) ∷ []) ((ident 3 14 (codes "c")) ∷ [])) (b.Halt (place 3 19) None) (b.part_then (header (place 4 9) ([]) ((ident 4 12 (codes "c")) ∷ [])) (b.Halt (place 4 17) None) b.no_parts))) } })) ∷ []

same_side_told : told same_side_source ≡ Fails (PlugUse (place 4 12) (codes "c"))
same_side_told = refl

abbrev side_source : Program
side_source =
    (d.Process (record { place = (place 1 1); name = (ident 1 6 (codes "run")); parameters = ([]); inputs = ((c.Named (place 1 15) (codes "Console") s.no_types) ∷ []); outputs = ([]); row = record { place = (place 2 5); variables = ([]); inputs = ((ident 2 7 (codes "k")) ∷ []); outputs = ([]); body = (b.Plug (place 2 15) (link (ident 2 20 (codes "c")) c.TopBot ∷ []) (b.part_then (header (place 3 9) ([]) ((ident 3 12 (codes "c")) ∷ (ident 3 15 (codes "k")) ∷ [])) (b.Halt (place 3 20) None) (b.part_then (header (place 4 9) ((ident 4 9 (codes "c")) ∷ []) ([])) (b.Halt (place 4 17) None) b.no_parts))) } })) ∷ []

side_told : told side_source ≡ Fails (PlugUse (place 3 15) (codes "k"))
side_told = refl

abbrev third_source : Program
third_source =
    (d.Process (record { place = (place 1 1); name = (ident 1 6 (codes "run")); parameters = ([]); inputs = ((c.Named (place 1 15) (codes "Console") s.no_types) ∷ []); outputs = ([]); row = record { place = (place 2 5); variables = ([]); inputs = ((ident 2 7 (codes "k")) ∷ []); outputs = ([]); body = (b.Plug (place 2 15) (link (ident 2 20 (codes "c")) c.TopBot ∷ []) (b.part_then (header (place 3 9) ((ident 3 9 (codes "k")) ∷ []) ((ident 3 14 (codes "c")) ∷ [])) (b.Halt (place 3 19) None) (b.part_then (header (place 4 9) ((ident 4 9 (codes "c")) ∷ []) ([])) (b.Halt (place 4 17) None) (b.part_then (header (place 5 9) ((ident 5 9 (codes "c")) ∷ []) ([])) (b.Halt (place 5 17) None) b.no_parts)))) } })) ∷ []

third_told : told third_source ≡ Fails (PlugUse (place 5 9) (codes "c"))
third_told = refl
