-- Sources judged: the first fault, as the reference tells it.
use Rattle.std.proofs.Common.{◌≡◌, refl, false, [], ◌∷◌, Some, None, codes, pos}
use Rattle.campl_tree.specs.declared.process.Binder.TheVariants as binder
use Rattle.campl_tree.specs.Plain.SeqType as s
use Rattle.campl_tree.specs.Plain.ChanType as c
use Rattle.campl_tree.specs.Plain.Expr as e
use Rattle.campl_tree.specs.Plain.Process as b
use Rattle.campl_tree.specs.Plain.Decl as d
use Rattle.campl_tree.specs.Plain.Decl.{Program}
use Rattle.campl_linear.specs.Faults.{NotHeld}
use Rattle.typed_sources.specs.Trees.{place, ident, link, header}
use Rattle.judged_sources.specs.Told.{protocol_line, told}
use Rattle.campl_seqcheck.specs.Judged.{Fails}

abbrev call_twice_source : Program
call_twice_source =
    (d.Process (record { place = (place 1 1); name = (ident 1 6 (codes "q")); parameters = (s.Int ∷ []); inputs = (c.TopBot ∷ (c.Named (place 1 25) (codes "Console") s.no_types) ∷ []); outputs = (c.TopBot ∷ []); row = record { place = (place 2 5); variables = ((binder.Variable (place 2 5) (codes "n")) ∷ []); inputs = ((ident 2 9 (codes "a")) ∷ (ident 2 12 (codes "b")) ∷ []); outputs = ((ident 2 17 (codes "c")) ∷ []); body = (b.Then (b.Hput (place 3 9) (ident 3 14 (codes "ConsoleClose")) (ident 3 30 (codes "b"))) (b.Then (b.Close (place 4 9) (ident 4 15 (codes "a"))) (b.Then (b.Close (place 5 9) (ident 5 15 (codes "b"))) (b.Halt (place 6 9) (Some (ident 6 14 (codes "c"))))))) } })) ∷ (d.Process (record { place = (place 7 1); name = (ident 7 6 (codes "p")); parameters = ([]); inputs = (c.TopBot ∷ c.TopBot ∷ []); outputs = (c.TopBot ∷ []); row = record { place = (place 8 5); variables = ([]); inputs = ((ident 8 7 (codes "x")) ∷ (ident 8 10 (codes "y")) ∷ []); outputs = ((ident 8 15 (codes "z")) ∷ []); body = (b.Call (place 8 20) (codes "q") (e.expr_then (e.Number (place 8 22) (pos 1)) e.no_exprs) ((ident 8 26 (codes "x")) ∷ (ident 8 29 (codes "x")) ∷ []) ((ident 8 34 (codes "z")) ∷ [])) } })) ∷ (d.Process (record { place = (place 9 1); name = (ident 9 6 (codes "run")); parameters = ([]); inputs = ([]); outputs = ([]); row = record { place = (place 10 5); variables = ([]); inputs = ([]); outputs = ([]); body = (b.Halt (place 10 13) None) } })) ∷ []

call_twice_told : told call_twice_source ≡ Fails (NotHeld (place 8 29) (codes "x"))
call_twice_told = refl

abbrev call_source : Program
call_source =
    (d.Process (record { place = (place 1 1); name = (ident 1 6 (codes "q")); parameters = (s.Int ∷ []); inputs = (c.TopBot ∷ (c.Named (place 1 25) (codes "Console") s.no_types) ∷ []); outputs = (c.TopBot ∷ []); row = record { place = (place 2 5); variables = ((binder.Variable (place 2 5) (codes "n")) ∷ []); inputs = ((ident 2 9 (codes "a")) ∷ (ident 2 12 (codes "b")) ∷ []); outputs = ((ident 2 17 (codes "c")) ∷ []); body = (b.Then (b.Hput (place 3 9) (ident 3 14 (codes "ConsoleClose")) (ident 3 30 (codes "b"))) (b.Then (b.Close (place 4 9) (ident 4 15 (codes "a"))) (b.Then (b.Close (place 5 9) (ident 5 15 (codes "b"))) (b.Halt (place 6 9) (Some (ident 6 14 (codes "c"))))))) } })) ∷ (d.Process (record { place = (place 7 1); name = (ident 7 6 (codes "p")); parameters = ([]); inputs = (c.TopBot ∷ (c.Named (place 7 21) (codes "Console") s.no_types) ∷ []); outputs = (c.TopBot ∷ []); row = record { place = (place 8 5); variables = ([]); inputs = ((ident 8 7 (codes "x")) ∷ (ident 8 10 (codes "y")) ∷ []); outputs = ((ident 8 15 (codes "z")) ∷ []); body = (b.Call (place 8 20) (codes "q") (e.expr_then (e.Number (place 8 22) (pos 1)) e.no_exprs) ((ident 8 26 (codes "x")) ∷ (ident 8 29 (codes "w")) ∷ []) ((ident 8 34 (codes "z")) ∷ [])) } })) ∷ (d.Process (record { place = (place 9 1); name = (ident 9 6 (codes "run")); parameters = ([]); inputs = ([]); outputs = ([]); row = record { place = (place 10 5); variables = ([]); inputs = ([]); outputs = ([]); body = (b.Halt (place 10 13) None) } })) ∷ []

call_told : told call_source ≡ Fails (NotHeld (place 8 29) (codes "w"))
call_told = refl

abbrev fork_both_source : Program
fork_both_source =
    (d.Process (record { place = (place 1 1); name = (ident 1 6 (codes "p")); parameters = ([]); inputs = ((c.Par c.TopBot c.TopBot) ∷ c.TopBot ∷ []); outputs = ([]); row = record { place = (place 2 5); variables = ([]); inputs = ((ident 2 7 (codes "c")) ∷ (ident 2 10 (codes "d")) ∷ []); outputs = ([]); body = (b.Fork (place 2 18) (ident 2 23 (codes "c")) (ident 3 9 (codes "a")) (b.Then (b.Close (place 4 13) (ident 4 19 (codes "d"))) (b.Halt (place 5 13) (Some (ident 5 18 (codes "a"))))) (ident 6 9 (codes "b")) (b.Then (b.Close (place 7 13) (ident 7 19 (codes "d"))) (b.Halt (place 8 13) (Some (ident 8 18 (codes "b")))))) } })) ∷ (d.Process (record { place = (place 9 1); name = (ident 9 6 (codes "run")); parameters = ([]); inputs = ([]); outputs = ([]); row = record { place = (place 10 5); variables = ([]); inputs = ([]); outputs = ([]); body = (b.Halt (place 10 13) None) } })) ∷ []

fork_both_told : told fork_both_source ≡ Fails (NotHeld (place 7 19) (codes "d"))
fork_both_told = refl

abbrev hcase_body_source : Program
hcase_body_source =
    (d.Protocol (record { place = (place 1 1); name = (ident 1 10 (codes "P")); parameters = ([]); local = (ident 1 15 (codes "S")); constructors = (protocol_line (ident 2 5 (codes "A")) c.TopBot (ident 2 20 (codes "S")) ∷ protocol_line (ident 3 5 (codes "B")) (c.Put s.Int (c.Named (place 3 20) (codes "S") s.no_types)) (ident 3 26 (codes "S")) ∷ []) })) ∷ (d.Process (record { place = (place 4 1); name = (ident 4 6 (codes "p")); parameters = ([]); inputs = ((c.Named (place 4 13) (codes "P") s.no_types) ∷ []); outputs = ([]); row = record { place = (place 5 5); variables = ([]); inputs = ((ident 5 7 (codes "c")) ∷ []); outputs = ([]); body = (b.Hcase (place 5 15) (ident 5 21 (codes "c")) (b.hcase_row_then (ident 6 9 (codes "B")) (b.Then (b.Get (place 7 13) (binder.Wildcard (place 0 0)) (ident 7 22 (codes "c"))) (b.Then (b.Close (place 8 13) (ident 8 19 (codes "d"))) (b.Halt (place 9 13) None))) (b.hcase_row_then (ident 10 9 (codes "A")) (b.Halt (place 10 14) (Some (ident 10 19 (codes "c")))) b.no_hcase_rows))) } })) ∷ (d.Process (record { place = (place 11 1); name = (ident 11 6 (codes "run")); parameters = ([]); inputs = ([]); outputs = ([]); row = record { place = (place 12 5); variables = ([]); inputs = ([]); outputs = ([]); body = (b.Halt (place 12 13) None) } })) ∷ []

hcase_body_told : told hcase_body_source ≡ Fails (NotHeld (place 8 19) (codes "d"))
hcase_body_told = refl

abbrev header_source : Program
header_source =
    (d.Process (record { place = (place 1 1); name = (ident 1 6 (codes "run")); parameters = ([]); inputs = ((c.Named (place 1 15) (codes "Console") s.no_types) ∷ []); outputs = ([]); row = record { place = (place 2 5); variables = ([]); inputs = ((ident 2 7 (codes "k")) ∷ []); outputs = ([]); body = (b.Plug (place 2 15) (link (ident 2 20 (codes "c")) c.TopBot ∷ []) (b.part_then (header (place 3 9) ((ident 3 9 (codes "k")) ∷ []) ((ident 3 14 (codes "d")) ∷ [])) (b.Halt (place 3 19) None) (b.part_then (header (place 4 9) ((ident 4 9 (codes "c")) ∷ []) ([])) (b.Halt (place 4 17) None) b.no_parts))) } })) ∷ []

header_told : told header_source ≡ Fails (NotHeld (place 3 14) (codes "d"))
header_told = refl

abbrev identity_y_source : Program
identity_y_source =
    (d.Process (record { place = (place 1 1); name = (ident 1 6 (codes "p")); parameters = ([]); inputs = (c.TopBot ∷ []); outputs = (c.TopBot ∷ c.TopBot ∷ []); row = record { place = (place 2 5); variables = ([]); inputs = ((ident 2 7 (codes "c")) ∷ []); outputs = ((ident 2 12 (codes "e")) ∷ (ident 2 15 (codes "d")) ∷ []); body = (b.Identity (place 2 20) (codes "d") false (ident 2 26 (codes "x"))) } })) ∷ (d.Process (record { place = (place 3 1); name = (ident 3 6 (codes "run")); parameters = ([]); inputs = ([]); outputs = ([]); row = record { place = (place 4 5); variables = ([]); inputs = ([]); outputs = ([]); body = (b.Halt (place 4 13) None) } })) ∷ []

identity_y_told : told identity_y_source ≡ Fails (NotHeld (place 2 26) (codes "x"))
identity_y_told = refl

abbrev order_source : Program
order_source =
    (d.Process (record { place = (place 1 1); name = (ident 1 6 (codes "p")); parameters = ([]); inputs = ((c.Put s.Int c.TopBot) ∷ []); outputs = ([]); row = record { place = (place 2 5); variables = ([]); inputs = ((ident 2 7 (codes "c")) ∷ []); outputs = ([]); body = (b.Then (b.Put (place 3 9) (e.Character (place 3 13) 97) (ident 3 20 (codes "d"))) (b.Halt (place 4 9) (Some (ident 4 14 (codes "c"))))) } })) ∷ (d.Process (record { place = (place 5 1); name = (ident 5 6 (codes "run")); parameters = ([]); inputs = ([]); outputs = ([]); row = record { place = (place 6 5); variables = ([]); inputs = ([]); outputs = ([]); body = (b.Halt (place 6 13) None) } })) ∷ []

order_told : told order_source ≡ Fails (NotHeld (place 3 20) (codes "d"))
order_told = refl

abbrev plug_body_source : Program
plug_body_source =
    (d.Process (record { place = (place 1 1); name = (ident 1 6 (codes "run")); parameters = ([]); inputs = ((c.Named (place 1 15) (codes "Console") s.no_types) ∷ []); outputs = ([]); row = record { place = (place 2 5); variables = ([]); inputs = ((ident 2 7 (codes "k")) ∷ []); outputs = ([]); body = (b.Plug (place 2 15) (link (ident 2 20 (codes "c")) c.TopBot ∷ []) (b.part_then (header (place 3 9) ([]) ((ident 3 12 (codes "c")) ∷ [])) (b.Then (b.Close (place 4 13) (ident 4 19 (codes "k"))) (b.Halt (place 5 13) (Some (ident 5 18 (codes "c"))))) (b.part_then (header (place 6 9) ((ident 6 9 (codes "c")) ∷ (ident 6 12 (codes "k")) ∷ []) ([])) (b.Halt (place 6 20) None) b.no_parts))) } })) ∷ []

plug_body_told : told plug_body_source ≡ Fails (NotHeld (place 4 19) (codes "k"))
plug_body_told = refl

abbrev race_source : Program
race_source =
    (d.Process (record { place = (place 1 1); name = (ident 1 6 (codes "p")); parameters = ([]); inputs = ((c.Put s.Int c.TopBot) ∷ (c.Put s.Int c.TopBot) ∷ []); outputs = ([]); row = record { place = (place 2 5); variables = ([]); inputs = ((ident 2 7 (codes "c")) ∷ (ident 2 10 (codes "d")) ∷ []); outputs = ([]); body = (b.Race (place 2 18) (b.branch_then (ident 3 13 (codes "c")) (b.Then (b.Get (place 4 17) (binder.Wildcard (place 0 0)) (ident 4 26 (codes "c"))) (b.Then (b.Get (place 5 17) (binder.Wildcard (place 0 0)) (ident 5 26 (codes "d"))) (b.Then (b.Close (place 6 17) (ident 6 23 (codes "c"))) (b.Halt (place 7 17) (Some (ident 7 22 (codes "d"))))))) (b.branch_then (ident 8 13 (codes "e")) (b.Then (b.Get (place 9 17) (binder.Wildcard (place 0 0)) (ident 9 26 (codes "d"))) (b.Then (b.Get (place 10 17) (binder.Wildcard (place 0 0)) (ident 10 26 (codes "c"))) (b.Then (b.Close (place 11 17) (ident 11 23 (codes "d"))) (b.Halt (place 12 17) (Some (ident 12 22 (codes "c"))))))) b.no_branches))) } })) ∷ (d.Process (record { place = (place 13 1); name = (ident 13 6 (codes "run")); parameters = ([]); inputs = ([]); outputs = ([]); row = record { place = (place 14 5); variables = ([]); inputs = ([]); outputs = ([]); body = (b.Halt (place 14 13) None) } })) ∷ []

race_told : told race_source ≡ Fails (NotHeld (place 8 13) (codes "e"))
race_told = refl

abbrev r08_notheld_source : Program
r08_notheld_source =
    (d.Process (record { place = (place 1 1); name = (ident 1 6 (codes "run")); parameters = ([]); inputs = ((c.Named (place 1 15) (codes "Console") s.no_types) ∷ []); outputs = ([]); row = record { place = (place 2 5); variables = ([]); inputs = ((ident 2 7 (codes "a")) ∷ []); outputs = ([]); body = (b.Then (b.Hput (place 3 9) (ident 3 14 (codes "ConsoleClose")) (ident 3 30 (codes "a"))) (b.Then (b.Close (place 4 9) (ident 4 15 (codes "a"))) (b.Halt (place 5 9) (Some (ident 5 14 (codes "a")))))) } })) ∷ []

r08_notheld_told : told r08_notheld_source ≡ Fails (NotHeld (place 5 14) (codes "a"))
r08_notheld_told = refl
