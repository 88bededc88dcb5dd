-- Sources judged: the first fault, as the reference tells it.
use Rattle.std.proofs.Common.{◌≡◌, refl, [], ◌∷◌, Some, None, codes, pos}
use Rattle.campl_tree.specs.declared.process.Binder.TheVariants as binder
use Rattle.campl_tree.specs.Plain.SeqType as s
use Rattle.campl_tree.specs.Plain.ChanType as c
use Rattle.campl_tree.specs.Plain.Expr as e
use Rattle.campl_tree.specs.Plain.Process as b
use Rattle.campl_tree.specs.Plain.Decl as d
use Rattle.campl_tree.specs.Plain.Decl.{Program}
use Rattle.campl_linear.specs.Faults.{CallChannels}
use Rattle.typed_sources.specs.Trees.{place, ident}
use Rattle.judged_sources.specs.Told.{protocol_line, told}
use Rattle.campl_seqcheck.specs.Judged.{Fails}

abbrev count_source : Program
count_source =
    (d.Process (record { place = (place 1 1); name = (ident 1 6 (codes "q")); parameters = (s.Int ∷ []); inputs = (c.TopBot ∷ (c.Named (place 1 25) (codes "Console") s.no_types) ∷ []); outputs = (c.TopBot ∷ []); row = record { place = (place 2 5); variables = ((binder.Variable (place 2 5) (codes "n")) ∷ []); inputs = ((ident 2 9 (codes "a")) ∷ (ident 2 12 (codes "b")) ∷ []); outputs = ((ident 2 17 (codes "c")) ∷ []); body = (b.Then (b.Hput (place 3 9) (ident 3 14 (codes "ConsoleClose")) (ident 3 30 (codes "b"))) (b.Then (b.Close (place 4 9) (ident 4 15 (codes "a"))) (b.Then (b.Close (place 5 9) (ident 5 15 (codes "b"))) (b.Halt (place 6 9) (Some (ident 6 14 (codes "c"))))))) } })) ∷ (d.Process (record { place = (place 7 1); name = (ident 7 6 (codes "p")); parameters = ([]); inputs = (c.TopBot ∷ (c.Named (place 7 21) (codes "Console") s.no_types) ∷ []); outputs = (c.TopBot ∷ []); row = record { place = (place 8 5); variables = ([]); inputs = ((ident 8 7 (codes "x")) ∷ (ident 8 10 (codes "y")) ∷ []); outputs = ((ident 8 15 (codes "z")) ∷ []); body = (b.Call (place 8 20) (codes "q") (e.expr_then (e.Number (place 8 22) (pos 1)) e.no_exprs) ((ident 8 26 (codes "x")) ∷ []) ((ident 8 31 (codes "z")) ∷ [])) } })) ∷ (d.Process (record { place = (place 9 1); name = (ident 9 6 (codes "run")); parameters = ([]); inputs = ([]); outputs = ([]); row = record { place = (place 10 5); variables = ([]); inputs = ([]); outputs = ([]); body = (b.Halt (place 10 13) None) } })) ∷ []

count_told : told count_source ≡ Fails (CallChannels (place 8 20) None)
count_told = refl

abbrev heading_source : Program
heading_source =
    (d.Process (record { place = (place 1 1); name = (ident 1 6 (codes "p")); parameters = (s.Int ∷ []); inputs = (c.TopBot ∷ []); outputs = ([]); row = record { place = (place 2 5); variables = ((binder.Variable (place 2 5) (codes "n")) ∷ []); inputs = ([]); outputs = ([]); body = (b.Halt (place 2 15) None) } })) ∷ (d.Process (record { place = (place 3 1); name = (ident 3 6 (codes "run")); parameters = ([]); inputs = ([]); outputs = ([]); row = record { place = (place 4 5); variables = ([]); inputs = ([]); outputs = ([]); body = (b.Halt (place 4 13) None) } })) ∷ []

heading_told : told heading_source ≡ Fails (CallChannels (place 2 5) None)
heading_told = refl

abbrev run_row_source : Program
run_row_source =
    (d.Process (record { place = (place 1 1); name = (ident 1 6 (codes "run")); parameters = ([]); inputs = ((c.Named (place 1 15) (codes "Console") s.no_types) ∷ []); outputs = ([]); row = record { place = (place 2 5); variables = ([]); inputs = ([]); outputs = ([]); body = (b.Halt (place 2 13) None) } })) ∷ []

run_row_told : told run_row_source ≡ Fails (CallChannels (place 2 5) None)
run_row_told = refl

abbrev side_source : Program
side_source =
    (d.Process (record { place = (place 1 1); name = (ident 1 6 (codes "q")); parameters = (s.Int ∷ []); inputs = (c.TopBot ∷ (c.Named (place 1 25) (codes "Console") s.no_types) ∷ []); outputs = (c.TopBot ∷ []); row = record { place = (place 2 5); variables = ((binder.Variable (place 2 5) (codes "n")) ∷ []); inputs = ((ident 2 9 (codes "a")) ∷ (ident 2 12 (codes "b")) ∷ []); outputs = ((ident 2 17 (codes "c")) ∷ []); body = (b.Then (b.Hput (place 3 9) (ident 3 14 (codes "ConsoleClose")) (ident 3 30 (codes "b"))) (b.Then (b.Close (place 4 9) (ident 4 15 (codes "a"))) (b.Then (b.Close (place 5 9) (ident 5 15 (codes "b"))) (b.Halt (place 6 9) (Some (ident 6 14 (codes "c"))))))) } })) ∷ (d.Process (record { place = (place 7 1); name = (ident 7 6 (codes "p")); parameters = ([]); inputs = (c.TopBot ∷ (c.Named (place 7 21) (codes "Console") s.no_types) ∷ []); outputs = (c.TopBot ∷ []); row = record { place = (place 8 5); variables = ([]); inputs = ((ident 8 7 (codes "x")) ∷ (ident 8 10 (codes "y")) ∷ []); outputs = ((ident 8 15 (codes "z")) ∷ []); body = (b.Call (place 8 20) (codes "q") (e.expr_then (e.Number (place 8 22) (pos 1)) e.no_exprs) ((ident 8 26 (codes "z")) ∷ (ident 8 29 (codes "y")) ∷ []) ((ident 8 34 (codes "x")) ∷ [])) } })) ∷ (d.Process (record { place = (place 9 1); name = (ident 9 6 (codes "run")); parameters = ([]); inputs = ([]); outputs = ([]); row = record { place = (place 10 5); variables = ([]); inputs = ([]); outputs = ([]); body = (b.Halt (place 10 13) None) } })) ∷ []

side_told : told side_source ≡ Fails (CallChannels (place 8 26) (Some (codes "z")))
side_told = refl

abbrev type_source : Program
type_source =
    (d.Process (record { place = (place 1 1); name = (ident 1 6 (codes "q")); parameters = (s.Int ∷ []); inputs = (c.TopBot ∷ (c.Named (place 1 25) (codes "Console") s.no_types) ∷ []); outputs = (c.TopBot ∷ []); row = record { place = (place 2 5); variables = ((binder.Variable (place 2 5) (codes "n")) ∷ []); inputs = ((ident 2 9 (codes "a")) ∷ (ident 2 12 (codes "b")) ∷ []); outputs = ((ident 2 17 (codes "c")) ∷ []); body = (b.Then (b.Hput (place 3 9) (ident 3 14 (codes "ConsoleClose")) (ident 3 30 (codes "b"))) (b.Then (b.Close (place 4 9) (ident 4 15 (codes "a"))) (b.Then (b.Close (place 5 9) (ident 5 15 (codes "b"))) (b.Halt (place 6 9) (Some (ident 6 14 (codes "c"))))))) } })) ∷ (d.Process (record { place = (place 7 1); name = (ident 7 6 (codes "p")); parameters = ([]); inputs = (c.TopBot ∷ c.TopBot ∷ []); outputs = (c.TopBot ∷ []); row = record { place = (place 8 5); variables = ([]); inputs = ((ident 8 7 (codes "x")) ∷ (ident 8 10 (codes "y")) ∷ []); outputs = ((ident 8 15 (codes "z")) ∷ []); body = (b.Call (place 8 20) (codes "q") (e.expr_then (e.Number (place 8 22) (pos 1)) e.no_exprs) ((ident 8 26 (codes "x")) ∷ (ident 8 29 (codes "y")) ∷ []) ((ident 8 34 (codes "z")) ∷ [])) } })) ∷ (d.Process (record { place = (place 9 1); name = (ident 9 6 (codes "run")); parameters = ([]); inputs = ([]); outputs = ([]); row = record { place = (place 10 5); variables = ([]); inputs = ([]); outputs = ([]); body = (b.Halt (place 10 13) None) } })) ∷ []

type_told : told type_source ≡ Fails (CallChannels (place 8 29) (Some (codes "y")))
type_told = refl

abbrev e_E50_box_source : Program
e_E50_box_source =
    (d.Protocol (record { place = (place 1 1); name = (ident 1 10 (codes "Box")); parameters = ((ident 1 14 (codes "a")) ∷ (ident 1 17 (codes "b")) ∷ []); local = (ident 1 23 (codes "S")); constructors = (protocol_line (ident 2 5 (codes "Give")) (c.Put (s.Variable (place 2 17) (codes "a")) (c.Get (s.Variable (place 2 25) (codes "b")) (c.Named (place 2 29) (codes "S") s.no_types))) (ident 2 36 (codes "S")) ∷ protocol_line (ident 3 5 (codes "End")) c.TopBot (ident 3 22 (codes "S")) ∷ []) })) ∷ (d.Process (record { place = (place 4 1); name = (ident 4 6 (codes "q")); parameters = ([]); inputs = ((c.Named (place 4 13) (codes "Box") (s.type_then s.Int (s.type_then s.Int s.no_types))) ∷ []); outputs = ([]); row = record { place = (place 5 5); variables = ([]); inputs = ((ident 5 7 (codes "c")) ∷ []); outputs = ([]); body = (b.Call (place 5 15) (codes "q") e.no_exprs ((ident 5 20 (codes "c")) ∷ []) ([])) } })) ∷ (d.Process (record { place = (place 6 1); name = (ident 6 6 (codes "p")); parameters = ([]); inputs = ((c.Named (place 6 13) (codes "Box") (s.type_then s.Int (s.type_then s.Char s.no_types))) ∷ []); outputs = ([]); row = record { place = (place 7 5); variables = ([]); inputs = ((ident 7 7 (codes "c")) ∷ []); outputs = ([]); body = (b.Call (place 7 15) (codes "q") e.no_exprs ((ident 7 20 (codes "c")) ∷ []) ([])) } })) ∷ (d.Process (record { place = (place 8 1); name = (ident 8 6 (codes "run")); parameters = ([]); inputs = ([]); outputs = ([]); row = record { place = (place 9 5); variables = ([]); inputs = ([]); outputs = ([]); body = (b.Halt (place 9 13) None) } })) ∷ []

e_E50_box_told : told e_E50_box_source ≡ Fails (CallChannels (place 7 20) (Some (codes "c")))
e_E50_box_told = refl
