-- Sources judged: the first fault, as the reference tells it.
use Rattle.std.proofs.Common.{◌≡◌, refl, false, [], ◌∷◌, Some, None, codes, pos}
use Rattle.campl_tree.specs.declared.process.Binder.TheVariants as binder
use Rattle.campl_tree.specs.Plain.SeqType as s
use Rattle.campl_tree.specs.Plain.ChanType as c
use Rattle.campl_tree.specs.Plain.Pattern as p
use Rattle.campl_tree.specs.Plain.Expr as e
use Rattle.campl_tree.specs.Plain.Process as b
use Rattle.campl_tree.specs.Plain.Decl as d
use Rattle.campl_tree.specs.Plain.Decl.{Program}
use Rattle.campl_linear.specs.Faults.{LeftOver}
use Rattle.typed_sources.specs.Trees.{place, ident, link, header}
use Rattle.judged_sources.specs.Told.{told}
use Rattle.campl_seqcheck.specs.Judged.{Fails}

abbrev call_source : Program
call_source =
    (d.Process (record { place = (place 1 1); name = (ident 1 6 (codes "q")); parameters = (s.Int ∷ []); inputs = (c.TopBot ∷ (c.Named (place 1 25) (codes "Console") s.no_types) ∷ []); outputs = (c.TopBot ∷ []); row = record { place = (place 2 5); variables = ((binder.Variable (place 2 5) (codes "n")) ∷ []); inputs = ((ident 2 9 (codes "a")) ∷ (ident 2 12 (codes "b")) ∷ []); outputs = ((ident 2 17 (codes "c")) ∷ []); body = (b.Then (b.Hput (place 3 9) (ident 3 14 (codes "ConsoleClose")) (ident 3 30 (codes "b"))) (b.Then (b.Close (place 4 9) (ident 4 15 (codes "a"))) (b.Then (b.Close (place 5 9) (ident 5 15 (codes "b"))) (b.Halt (place 6 9) (Some (ident 6 14 (codes "c"))))))) } })) ∷ (d.Process (record { place = (place 7 1); name = (ident 7 6 (codes "p")); parameters = ([]); inputs = (c.TopBot ∷ (c.Named (place 7 21) (codes "Console") s.no_types) ∷ c.TopBot ∷ []); outputs = (c.TopBot ∷ []); row = record { place = (place 8 5); variables = ([]); inputs = ((ident 8 7 (codes "x")) ∷ (ident 8 10 (codes "y")) ∷ (ident 8 13 (codes "w")) ∷ []); outputs = ((ident 8 18 (codes "z")) ∷ []); body = (b.Call (place 8 23) (codes "q") (e.expr_then (e.Number (place 8 25) (pos 1)) e.no_exprs) ((ident 8 29 (codes "x")) ∷ (ident 8 32 (codes "y")) ∷ []) ((ident 8 37 (codes "z")) ∷ [])) } })) ∷ (d.Process (record { place = (place 9 1); name = (ident 9 6 (codes "run")); parameters = ([]); inputs = ([]); outputs = ([]); row = record { place = (place 10 5); variables = ([]); inputs = ([]); outputs = ([]); body = (b.Halt (place 10 13) None) } })) ∷ []

call_told : told call_source ≡ Fails (LeftOver (place 8 23) (codes "w"))
call_told = refl

abbrev fork_a_source : Program
fork_a_source =
    (d.Process (record { place = (place 1 1); name = (ident 1 6 (codes "p")); parameters = ([]); inputs = ((c.Par c.TopBot c.TopBot) ∷ c.TopBot ∷ []); outputs = ([]); row = record { place = (place 2 5); variables = ([]); inputs = ((ident 2 7 (codes "c")) ∷ (ident 2 10 (codes "d")) ∷ []); outputs = ([]); body = (b.Fork (place 2 18) (ident 2 23 (codes "c")) (ident 3 9 (codes "d")) (b.Halt (place 3 14) (Some (ident 3 19 (codes "d")))) (ident 4 9 (codes "e")) (b.Halt (place 4 14) (Some (ident 4 19 (codes "e"))))) } })) ∷ (d.Process (record { place = (place 5 1); name = (ident 5 6 (codes "run")); parameters = ([]); inputs = ([]); outputs = ([]); row = record { place = (place 6 5); variables = ([]); inputs = ([]); outputs = ([]); body = (b.Halt (place 6 13) None) } })) ∷ []

fork_a_told : told fork_a_source ≡ Fails (LeftOver (place 3 9) (codes "d"))
fork_a_told = refl

abbrev fork_b_source : Program
fork_b_source =
    (d.Process (record { place = (place 1 1); name = (ident 1 6 (codes "p")); parameters = ([]); inputs = ((c.Par c.TopBot c.TopBot) ∷ c.TopBot ∷ []); outputs = ([]); row = record { place = (place 2 5); variables = ([]); inputs = ((ident 2 7 (codes "c")) ∷ (ident 2 10 (codes "d")) ∷ []); outputs = ([]); body = (b.Fork (place 2 18) (ident 2 23 (codes "c")) (ident 3 9 (codes "a")) (b.Halt (place 3 14) (Some (ident 3 19 (codes "a")))) (ident 4 9 (codes "a")) (b.Halt (place 4 14) (Some (ident 4 19 (codes "a"))))) } })) ∷ (d.Process (record { place = (place 5 1); name = (ident 5 6 (codes "run")); parameters = ([]); inputs = ([]); outputs = ([]); row = record { place = (place 6 5); variables = ([]); inputs = ([]); outputs = ([]); body = (b.Halt (place 6 13) None) } })) ∷ []

fork_b_told : told fork_b_source ≡ Fails (LeftOver (place 4 9) (codes "a"))
fork_b_told = refl

abbrev fork_left_source : Program
fork_left_source =
    (d.Process (record { place = (place 1 1); name = (ident 1 6 (codes "p")); parameters = ([]); inputs = ((c.Par c.TopBot c.TopBot) ∷ c.TopBot ∷ []); outputs = ([]); row = record { place = (place 2 5); variables = ([]); inputs = ((ident 2 7 (codes "c")) ∷ (ident 2 10 (codes "d")) ∷ []); outputs = ([]); body = (b.Fork (place 2 18) (ident 2 23 (codes "c")) (ident 3 9 (codes "a")) (b.Halt (place 3 14) (Some (ident 3 19 (codes "a")))) (ident 4 9 (codes "b")) (b.Halt (place 4 14) (Some (ident 4 19 (codes "b"))))) } })) ∷ (d.Process (record { place = (place 5 1); name = (ident 5 6 (codes "run")); parameters = ([]); inputs = ([]); outputs = ([]); row = record { place = (place 6 5); variables = ([]); inputs = ([]); outputs = ([]); body = (b.Halt (place 6 13) None) } })) ∷ []

fork_left_told : told fork_left_source ≡ Fails (LeftOver (place 4 14) (codes "d"))
fork_left_told = refl

abbrev halt_bare_source : Program
halt_bare_source =
    (d.Process (record { place = (place 1 1); name = (ident 1 6 (codes "p")); parameters = ([]); inputs = (c.TopBot ∷ c.TopBot ∷ []); outputs = (c.TopBot ∷ []); row = record { place = (place 2 5); variables = ([]); inputs = ((ident 2 7 (codes "c")) ∷ (ident 2 10 (codes "d")) ∷ []); outputs = ((ident 2 15 (codes "e")) ∷ []); body = (b.Halt (place 2 20) None) } })) ∷ (d.Process (record { place = (place 3 1); name = (ident 3 6 (codes "run")); parameters = ([]); inputs = ([]); outputs = ([]); row = record { place = (place 4 5); variables = ([]); inputs = ([]); outputs = ([]); body = (b.Halt (place 4 13) None) } })) ∷ []

halt_bare_told : told halt_bare_source ≡ Fails (LeftOver (place 2 20) (codes "c"))
halt_bare_told = refl

abbrev halt_order_source : Program
halt_order_source =
    (d.Process (record { place = (place 1 1); name = (ident 1 6 (codes "p")); parameters = ([]); inputs = (c.TopBot ∷ c.TopBot ∷ []); outputs = (c.TopBot ∷ []); row = record { place = (place 2 5); variables = ([]); inputs = ((ident 2 7 (codes "c")) ∷ (ident 2 10 (codes "d")) ∷ []); outputs = ((ident 2 15 (codes "e")) ∷ []); body = (b.Halt (place 2 20) (Some (ident 2 25 (codes "c")))) } })) ∷ (d.Process (record { place = (place 3 1); name = (ident 3 6 (codes "run")); parameters = ([]); inputs = ([]); outputs = ([]); row = record { place = (place 4 5); variables = ([]); inputs = ([]); outputs = ([]); body = (b.Halt (place 4 13) None) } })) ∷ []

halt_order_told : told halt_order_source ≡ Fails (LeftOver (place 2 20) (codes "d"))
halt_order_told = refl

abbrev identity_source : Program
identity_source =
    (d.Process (record { place = (place 1 1); name = (ident 1 6 (codes "p")); parameters = ([]); inputs = (c.TopBot ∷ []); outputs = (c.TopBot ∷ c.TopBot ∷ []); row = record { place = (place 2 5); variables = ([]); inputs = ((ident 2 7 (codes "c")) ∷ []); outputs = ((ident 2 12 (codes "e")) ∷ (ident 2 15 (codes "d")) ∷ []); body = (b.Identity (place 2 20) (codes "d") false (ident 2 26 (codes "c"))) } })) ∷ (d.Process (record { place = (place 3 1); name = (ident 3 6 (codes "run")); parameters = ([]); inputs = ([]); outputs = ([]); row = record { place = (place 4 5); variables = ([]); inputs = ([]); outputs = ([]); body = (b.Halt (place 4 13) None) } })) ∷ []

identity_told : told identity_source ≡ Fails (LeftOver (place 2 20) (codes "e"))
identity_told = refl

abbrev in_no_part_source : Program
in_no_part_source =
    (d.Process (record { place = (place 1 1); name = (ident 1 6 (codes "run")); parameters = ([]); inputs = ((c.Named (place 1 15) (codes "Console") s.no_types) ∷ []); outputs = ([]); row = record { place = (place 2 5); variables = ([]); inputs = ((ident 2 7 (codes "k")) ∷ []); outputs = ([]); body = (b.Plug (place 2 15) (link (ident 2 20 (codes "c")) c.TopBot ∷ []) (b.part_then (header (place 3 9) ([]) ((ident 3 12 (codes "c")) ∷ [])) (b.Halt (place 3 17) None) (b.part_then (header (place 4 9) ((ident 4 9 (codes "c")) ∷ []) ([])) (b.Halt (place 4 17) None) b.no_parts))) } })) ∷ []

in_no_part_told : told in_no_part_source ≡ Fails (LeftOver (place 2 15) (codes "k"))
in_no_part_told = refl

abbrev link_source : Program
link_source =
    (d.Process (record { place = (place 1 1); name = (ident 1 6 (codes "run")); parameters = ([]); inputs = ((c.Named (place 1 15) (codes "Console") s.no_types) ∷ []); outputs = ([]); row = record { place = (place 2 5); variables = ([]); inputs = ((ident 2 7 (codes "k")) ∷ []); outputs = ([]); body = (b.Plug (place 2 15) (link (ident 2 20 (codes "c")) c.TopBot ∷ link (ident 2 33 (codes "k")) c.TopBot ∷ link (ident 2 46 (codes "c")) c.TopBot ∷ []) (b.part_then (header (place 3 9) ([]) ((ident 3 12 (codes "c")) ∷ [])) (b.Halt (place 3 17) None) (b.part_then (header (place 4 9) ([]) ((ident 4 12 (codes "c")) ∷ [])) (b.Halt (place 4 17) None) b.no_parts))) } })) ∷ []

link_told : told link_source ≡ Fails (LeftOver (place 2 33) (codes "k"))
link_told = refl

abbrev new_type_keeps_place_source : Program
new_type_keeps_place_source =
    (d.Process (record { place = (place 1 1); name = (ident 1 6 (codes "p")); parameters = ([]); inputs = ((c.Put s.Int c.TopBot) ∷ c.TopBot ∷ []); outputs = (c.TopBot ∷ []); row = record { place = (place 2 5); variables = ([]); inputs = ((ident 2 7 (codes "c")) ∷ (ident 2 10 (codes "d")) ∷ []); outputs = ((ident 2 15 (codes "e")) ∷ []); body = (b.Then (b.Get (place 3 9) (binder.Wildcard (place 0 0)) (ident 3 18 (codes "c"))) (b.Halt (place 4 9) (Some (ident 4 14 (codes "d"))))) } })) ∷ (d.Process (record { place = (place 5 1); name = (ident 5 6 (codes "run")); parameters = ([]); inputs = ([]); outputs = ([]); row = record { place = (place 6 5); variables = ([]); inputs = ([]); outputs = ([]); body = (b.Halt (place 6 13) None) } })) ∷ []

new_type_keeps_place_told : told new_type_keeps_place_source ≡ Fails (LeftOver (place 4 9) (codes "c"))
new_type_keeps_place_told = refl

abbrev part_links_order_source : Program
part_links_order_source =
    (d.Process (record { place = (place 1 1); name = (ident 1 6 (codes "run")); parameters = ([]); inputs = ((c.Named (place 1 15) (codes "Console") s.no_types) ∷ []); outputs = ([]); row = record { place = (place 2 5); variables = ([]); inputs = ((ident 2 7 (codes "k")) ∷ []); outputs = ([]); body = (b.Plug (place 2 15) (link (ident 2 20 (codes "e")) c.TopBot ∷ link (ident 2 33 (codes "d")) c.TopBot ∷ []) (b.part_then (header (place 3 9) ((ident 3 9 (codes "d")) ∷ (ident 3 12 (codes "e")) ∷ []) ([])) (b.Halt (place 3 20) None) (b.part_then (header (place 4 9) ([]) ((ident 4 12 (codes "e")) ∷ [])) (b.Halt (place 4 17) (Some (ident 4 22 (codes "e")))) (b.part_then (header (place 5 9) ((ident 5 9 (codes "k")) ∷ []) ((ident 5 14 (codes "d")) ∷ [])) (b.Halt (place 5 19) None) b.no_parts)))) } })) ∷ []

part_links_order_told : told part_links_order_source ≡ Fails (LeftOver (place 3 20) (codes "e"))
part_links_order_told = refl

abbrev part_order_source : Program
part_order_source =
    (d.Process (record { place = (place 1 1); name = (ident 1 6 (codes "run")); parameters = ([]); inputs = ((c.Named (place 1 15) (codes "Console") s.no_types) ∷ []); outputs = ([]); row = record { place = (place 2 5); variables = ([]); inputs = ((ident 2 7 (codes "k")) ∷ []); outputs = ([]); body = (b.Plug (place 2 15) (link (ident 2 20 (codes "d")) c.TopBot ∷ []) (b.part_then (header (place 3 9) ((ident 3 9 (codes "d")) ∷ (ident 3 12 (codes "k")) ∷ []) ([])) (b.Halt (place 3 20) None) (b.part_then (header (place 4 9) ([]) ((ident 4 12 (codes "d")) ∷ [])) (b.Halt (place 4 17) (Some (ident 4 22 (codes "d")))) b.no_parts))) } })) ∷ []

part_order_told : told part_order_source ≡ Fails (LeftOver (place 3 20) (codes "k"))
part_order_told = refl

abbrev process_case_source : Program
process_case_source =
    (d.Process (record { place = (place 1 1); name = (ident 1 6 (codes "p")); parameters = (s.Bool ∷ []); inputs = (c.TopBot ∷ []); outputs = ([]); row = record { place = (place 2 5); variables = ((binder.Variable (place 2 5) (codes "b")) ∷ []); inputs = ((ident 2 9 (codes "c")) ∷ []); outputs = ([]); body = (b.Case (place 2 17) (e.Variable (place 2 22) (codes "b")) (b.case_row_then (p.True (place 3 9)) (b.Halt (place 3 17) None) (b.case_row_then (p.False (place 4 9)) (b.Halt (place 4 18) (Some (ident 4 23 (codes "c")))) b.no_case_rows))) } })) ∷ (d.Process (record { place = (place 5 1); name = (ident 5 6 (codes "run")); parameters = ([]); inputs = ([]); outputs = ([]); row = record { place = (place 6 5); variables = ([]); inputs = ([]); outputs = ([]); body = (b.Halt (place 6 13) None) } })) ∷ []

process_case_told : told process_case_source ≡ Fails (LeftOver (place 3 17) (codes "c"))
process_case_told = refl

abbrev split_name_source : Program
split_name_source =
    (d.Process (record { place = (place 1 1); name = (ident 1 6 (codes "p")); parameters = ([]); inputs = ((c.Tensor c.TopBot c.TopBot) ∷ c.TopBot ∷ []); outputs = ([]); row = record { place = (place 2 5); variables = ([]); inputs = ((ident 2 7 (codes "c")) ∷ (ident 2 10 (codes "d")) ∷ []); outputs = ([]); body = (b.Then (b.Split (place 3 9) (ident 3 15 (codes "c")) (ident 3 22 (codes "a")) (ident 3 25 (codes "d"))) (b.Halt (place 4 9) None)) } })) ∷ (d.Process (record { place = (place 5 1); name = (ident 5 6 (codes "run")); parameters = ([]); inputs = ([]); outputs = ([]); row = record { place = (place 6 5); variables = ([]); inputs = ([]); outputs = ([]); body = (b.Halt (place 6 13) None) } })) ∷ []

split_name_told : told split_name_source ≡ Fails (LeftOver (place 3 25) (codes "d"))
split_name_told = refl

abbrev split_twice_source : Program
split_twice_source =
    (d.Process (record { place = (place 1 1); name = (ident 1 6 (codes "p")); parameters = ([]); inputs = ((c.Tensor c.TopBot c.TopBot) ∷ c.TopBot ∷ []); outputs = ([]); row = record { place = (place 2 5); variables = ([]); inputs = ((ident 2 7 (codes "c")) ∷ (ident 2 10 (codes "d")) ∷ []); outputs = ([]); body = (b.Then (b.Split (place 3 9) (ident 3 15 (codes "c")) (ident 3 22 (codes "a")) (ident 3 25 (codes "a"))) (b.Halt (place 4 9) None)) } })) ∷ (d.Process (record { place = (place 5 1); name = (ident 5 6 (codes "run")); parameters = ([]); inputs = ([]); outputs = ([]); row = record { place = (place 6 5); variables = ([]); inputs = ([]); outputs = ([]); body = (b.Halt (place 6 13) None) } })) ∷ []

split_twice_told : told split_twice_source ≡ Fails (LeftOver (place 3 25) (codes "a"))
split_twice_told = refl

abbrev r08_leftover_source : Program
r08_leftover_source =
    (d.Process (record { place = (place 1 1); name = (ident 1 6 (codes "run")); parameters = ([]); inputs = ((c.Named (place 1 15) (codes "Console") s.no_types) ∷ (c.Named (place 1 24) (codes "Console") s.no_types) ∷ []); outputs = ([]); row = record { place = (place 2 5); variables = ([]); inputs = ((ident 2 7 (codes "a")) ∷ (ident 2 10 (codes "b")) ∷ []); outputs = ([]); body = (b.Then (b.Hput (place 3 9) (ident 3 14 (codes "ConsoleClose")) (ident 3 30 (codes "a"))) (b.Halt (place 4 9) (Some (ident 4 14 (codes "a"))))) } })) ∷ []

r08_leftover_told : told r08_leftover_source ≡ Fails (LeftOver (place 4 9) (codes "b"))
r08_leftover_told = refl
