-- Sources judged: the first fault, as the reference tells it.
use Rattle.std.proofs.Common.{◌≡◌, refl, true, false, [], ◌∷◌, None, codes}
use Rattle.campl_tree.specs.Plain.SeqType as s
use Rattle.campl_tree.specs.Plain.ChanType as c
use Rattle.campl_tree.specs.Plain.Process as b
use Rattle.campl_tree.specs.Plain.Decl as d
use Rattle.campl_tree.specs.Plain.Decl.{Program}
use Rattle.campl_linear.specs.Faults.{IdentityType}
use Rattle.typed_sources.specs.Trees.{place, ident}
use Rattle.judged_sources.specs.Told.{protocol_line, told}
use Rattle.campl_seqcheck.specs.Judged.{Fails}

abbrev itself_source : Program
itself_source =
    (d.Process (record { place = (place 1 1); name = (ident 1 6 (codes "p")); parameters = ([]); inputs = (c.TopBot ∷ []); outputs = ([]); row = record { place = (place 2 5); variables = ([]); inputs = ((ident 2 7 (codes "c")) ∷ []); outputs = ([]); body = (b.Identity (place 2 15) (codes "c") false (ident 2 21 (codes "c"))) } })) ∷ (d.Process (record { place = (place 3 1); name = (ident 3 6 (codes "run")); parameters = ([]); inputs = ([]); outputs = ([]); row = record { place = (place 4 5); variables = ([]); inputs = ([]); outputs = ([]); body = (b.Halt (place 4 13) None) } })) ∷ []

itself_told : told itself_source ≡ Fails (IdentityType (place 2 15))
itself_told = refl

abbrev neg_order_source : Program
neg_order_source =
    (d.Process (record { place = (place 1 1); name = (ident 1 6 (codes "p")); parameters = ([]); inputs = ((c.Neg c.TopBot) ∷ c.TopBot ∷ []); outputs = ([]); row = record { place = (place 2 5); variables = ([]); inputs = ((ident 2 7 (codes "c")) ∷ (ident 2 10 (codes "d")) ∷ []); outputs = ([]); body = (b.Identity (place 2 18) (codes "d") true (ident 2 28 (codes "c"))) } })) ∷ (d.Process (record { place = (place 3 1); name = (ident 3 6 (codes "run")); parameters = ([]); inputs = ([]); outputs = ([]); row = record { place = (place 4 5); variables = ([]); inputs = ([]); outputs = ([]); body = (b.Halt (place 4 13) None) } })) ∷ []

neg_order_told : told neg_order_source ≡ Fails (IdentityType (place 2 18))
neg_order_told = refl

abbrev neg_side_source : Program
neg_side_source =
    (d.Process (record { place = (place 1 1); name = (ident 1 6 (codes "p")); parameters = ([]); inputs = ((c.Neg c.TopBot) ∷ []); outputs = (c.TopBot ∷ []); row = record { place = (place 2 5); variables = ([]); inputs = ((ident 2 7 (codes "c")) ∷ []); outputs = ((ident 2 12 (codes "d")) ∷ []); body = (b.Identity (place 2 17) (codes "c") true (ident 2 27 (codes "d"))) } })) ∷ (d.Process (record { place = (place 3 1); name = (ident 3 6 (codes "run")); parameters = ([]); inputs = ([]); outputs = ([]); row = record { place = (place 4 5); variables = ([]); inputs = ([]); outputs = ([]); body = (b.Halt (place 4 13) None) } })) ∷ []

neg_side_told : told neg_side_source ≡ Fails (IdentityType (place 2 17))
neg_side_told = refl

abbrev side_source : Program
side_source =
    (d.Process (record { place = (place 1 1); name = (ident 1 6 (codes "p")); parameters = ([]); inputs = (c.TopBot ∷ c.TopBot ∷ []); outputs = ([]); row = record { place = (place 2 5); variables = ([]); inputs = ((ident 2 7 (codes "c")) ∷ (ident 2 10 (codes "d")) ∷ []); outputs = ([]); body = (b.Identity (place 2 18) (codes "d") false (ident 2 24 (codes "c"))) } })) ∷ (d.Process (record { place = (place 3 1); name = (ident 3 6 (codes "run")); parameters = ([]); inputs = ([]); outputs = ([]); row = record { place = (place 4 5); variables = ([]); inputs = ([]); outputs = ([]); body = (b.Halt (place 4 13) None) } })) ∷ []

side_told : told side_source ≡ Fails (IdentityType (place 2 18))
side_told = refl

abbrev type_source : Program
type_source =
    (d.Process (record { place = (place 1 1); name = (ident 1 6 (codes "p")); parameters = ([]); inputs = ((c.Put s.Int c.TopBot) ∷ []); outputs = ((c.Put s.Char c.TopBot) ∷ []); row = record { place = (place 2 5); variables = ([]); inputs = ((ident 2 7 (codes "c")) ∷ []); outputs = ((ident 2 12 (codes "d")) ∷ []); body = (b.Identity (place 2 17) (codes "d") false (ident 2 23 (codes "c"))) } })) ∷ (d.Process (record { place = (place 3 1); name = (ident 3 6 (codes "run")); parameters = ([]); inputs = ([]); outputs = ([]); row = record { place = (place 4 5); variables = ([]); inputs = ([]); outputs = ([]); body = (b.Halt (place 4 13) None) } })) ∷ []

type_told : told type_source ≡ Fails (IdentityType (place 2 17))
type_told = refl

abbrev e_E49_box_source : Program
e_E49_box_source =
    (d.Protocol (record { place = (place 1 1); name = (ident 1 10 (codes "Box")); parameters = ((ident 1 14 (codes "a")) ∷ (ident 1 17 (codes "b")) ∷ []); local = (ident 1 23 (codes "S")); constructors = (protocol_line (ident 2 5 (codes "Give")) (c.Put (s.Variable (place 2 17) (codes "a")) (c.Get (s.Variable (place 2 25) (codes "b")) (c.Named (place 2 29) (codes "S") s.no_types))) (ident 2 36 (codes "S")) ∷ protocol_line (ident 3 5 (codes "End")) c.TopBot (ident 3 22 (codes "S")) ∷ []) })) ∷ (d.Process (record { place = (place 4 1); name = (ident 4 6 (codes "p")); parameters = ([]); inputs = ((c.Named (place 4 13) (codes "Box") (s.type_then s.Int (s.type_then s.Int s.no_types))) ∷ []); outputs = ((c.Named (place 4 30) (codes "Box") (s.type_then s.Int (s.type_then s.Char s.no_types))) ∷ []); row = record { place = (place 5 5); variables = ([]); inputs = ((ident 5 7 (codes "c")) ∷ []); outputs = ((ident 5 12 (codes "d")) ∷ []); body = (b.Identity (place 5 17) (codes "c") false (ident 5 23 (codes "d"))) } })) ∷ (d.Process (record { place = (place 6 1); name = (ident 6 6 (codes "run")); parameters = ([]); inputs = ([]); outputs = ([]); row = record { place = (place 7 5); variables = ([]); inputs = ([]); outputs = ([]); body = (b.Halt (place 7 13) None) } })) ∷ []

e_E49_box_told : told e_E49_box_source ≡ Fails (IdentityType (place 5 17))
e_E49_box_told = refl
