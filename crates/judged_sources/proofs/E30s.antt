-- Sources judged: the first fault, as the reference tells it.
use Rattle.std.proofs.Common.{◌≡◌, refl, [], ◌∷◌, Some, None, codes, pos}
use Rattle.campl_tree.specs.declared.process.Binder.TheVariants as binder
use Rattle.campl_tree.specs.Plain.SeqType as s
use Rattle.campl_tree.specs.Plain.ChanType as c
use Rattle.campl_tree.specs.Plain.Pattern as p
use Rattle.campl_tree.specs.Plain.Expr as e
use Rattle.campl_tree.specs.Plain.Process as b
use Rattle.campl_tree.specs.Plain.Decl as d
use Rattle.campl_tree.specs.Plain.Decl.{Program}
use Rattle.campl_seqcheck.specs.declared.fault.SeqFault.TheVariants.{TypeDiffers, NotExhaustive, NameTwiceInPattern, ArgumentCount}
use Rattle.campl_linear.specs.Faults.{Seq}
use Rattle.typed_sources.specs.Trees.{place, ident, link, header, function_row}
use Rattle.judged_sources.specs.Told.{data_line, protocol_line, told}
use Rattle.campl_seqcheck.specs.Judged.{Fails}

abbrev int_source : Program
int_source =
    (d.Data (record { place = (place 1 1); name = (ident 1 6 (codes "Maybe")); parameters = ((ident 1 12 (codes "a")) ∷ []); constructors = (data_line (ident 2 5 (codes "None")) ([]) ∷ data_line (ident 3 5 (codes "Just")) ((s.Variable (place 3 10) (codes "a")) ∷ []) ∷ []) })) ∷ (d.Function (record { place = (place 4 1); name = (ident 4 5 (codes "first")); parameters = ((s.List (s.Variable (place 4 15) (codes "a"))) ∷ []); result = (s.Named (place 4 21) (codes "Maybe") (s.type_then (s.Variable (place 4 27) (codes "a")) s.no_types)); rows = (function_row (place 5 5) (p.pattern_then (p.List (place 5 5) p.no_patterns) p.no_patterns) (e.Constructor (place 5 11) (codes "None") e.no_exprs) ∷ function_row (place 6 5) (p.pattern_then (p.Cons (place 6 5) (p.Variable (place 6 5) (codes "x")) (p.Wildcard (place 6 9))) p.no_patterns) (e.Constructor (place 6 14) (codes "Just") (e.expr_then (e.Variable (place 6 19) (codes "x")) e.no_exprs)) ∷ []) })) ∷ (d.Function (record { place = (place 7 1); name = (ident 7 5 (codes "either")); parameters = ((s.Named (place 7 15) (codes "Maybe") (s.type_then (s.Variable (place 7 21) (codes "a")) s.no_types)) ∷ (s.Variable (place 7 25) (codes "a")) ∷ []); result = (s.Variable (place 7 30) (codes "a")); rows = (function_row (place 8 5) (p.pattern_then (p.Constructor (place 8 5) (codes "None") p.no_patterns) (p.pattern_then (p.Variable (place 8 11) (codes "y")) p.no_patterns)) (e.Variable (place 8 16) (codes "y")) ∷ function_row (place 9 5) (p.pattern_then (p.Constructor (place 9 5) (codes "Just") (p.pattern_then (p.Variable (place 9 10) (codes "x")) p.no_patterns)) (p.pattern_then (p.Wildcard (place 9 14)) p.no_patterns)) (e.Variable (place 9 19) (codes "x")) ∷ []) })) ∷ (d.Process (record { place = (place 10 1); name = (ident 10 6 (codes "run")); parameters = ([]); inputs = ((c.Named (place 10 15) (codes "Console") s.no_types) ∷ []); outputs = ([]); row = record { place = (place 11 5); variables = ([]); inputs = ((ident 11 7 (codes "console")) ∷ []); outputs = ([]); body = (b.Plug (place 11 21) (link (ident 11 26 (codes "c")) (c.Put (s.Named (place 11 35) (codes "Maybe") (s.type_then (s.List s.Char) s.no_types)) c.TopBot) ∷ []) (b.part_then (header (place 12 9) ([]) ((ident 12 12 (codes "c")) ∷ [])) (b.Then (b.Put (place 13 13) (e.Call (place 13 17) (codes "first") (e.expr_then (e.List (place 13 23) (e.expr_then (e.Number (place 13 24) (pos 1)) e.no_exprs)) e.no_exprs)) (ident 13 31 (codes "c"))) (b.Halt (place 14 13) (Some (ident 14 18 (codes "c"))))) (b.part_then (header (place 15 9) ((ident 15 9 (codes "c")) ∷ (ident 15 12 (codes "console")) ∷ []) ([])) (b.Then (b.Get (place 16 13) (binder.Variable (place 16 17) (codes "m")) (ident 16 22 (codes "c"))) (b.Then (b.Close (place 17 13) (ident 17 19 (codes "c"))) (b.Then (b.Hput (place 18 13) (ident 18 18 (codes "ConsolePut")) (ident 18 32 (codes "console"))) (b.Then (b.Put (place 19 13) (e.Call (place 19 17) (codes "either") (e.expr_then (e.Variable (place 19 24) (codes "m")) (e.expr_then (e.Text (place 19 27) (codes "none")) e.no_exprs))) (ident 19 38 (codes "console"))) (b.Then (b.Hput (place 20 13) (ident 20 18 (codes "ConsoleClose")) (ident 20 34 (codes "console"))) (b.Halt (place 21 13) (Some (ident 21 18 (codes "console"))))))))) b.no_parts))) } })) ∷ []

int_told : told int_source ≡ Fails (Seq (TypeDiffers (place 13 24) (codes "Int") (codes "[Char]")))
int_told = refl

abbrev call_source : Program
call_source =
    (d.Process (record { place = (place 1 1); name = (ident 1 6 (codes "q")); parameters = (s.Int ∷ []); inputs = (c.TopBot ∷ (c.Named (place 1 25) (codes "Console") s.no_types) ∷ []); outputs = (c.TopBot ∷ []); row = record { place = (place 2 5); variables = ((binder.Variable (place 2 5) (codes "n")) ∷ []); inputs = ((ident 2 9 (codes "a")) ∷ (ident 2 12 (codes "b")) ∷ []); outputs = ((ident 2 17 (codes "c")) ∷ []); body = (b.Then (b.Hput (place 3 9) (ident 3 14 (codes "ConsoleClose")) (ident 3 30 (codes "b"))) (b.Then (b.Close (place 4 9) (ident 4 15 (codes "a"))) (b.Then (b.Close (place 5 9) (ident 5 15 (codes "b"))) (b.Halt (place 6 9) (Some (ident 6 14 (codes "c"))))))) } })) ∷ (d.Process (record { place = (place 7 1); name = (ident 7 6 (codes "p")); parameters = ([]); inputs = (c.TopBot ∷ (c.Named (place 7 21) (codes "Console") s.no_types) ∷ []); outputs = (c.TopBot ∷ []); row = record { place = (place 8 5); variables = ([]); inputs = ((ident 8 7 (codes "x")) ∷ (ident 8 10 (codes "y")) ∷ []); outputs = ((ident 8 15 (codes "z")) ∷ []); body = (b.Call (place 8 20) (codes "q") (e.expr_then (e.Character (place 8 22) 97) e.no_exprs) ((ident 8 28 (codes "x")) ∷ []) ((ident 8 33 (codes "z")) ∷ [])) } })) ∷ (d.Process (record { place = (place 9 1); name = (ident 9 6 (codes "run")); parameters = ([]); inputs = ([]); outputs = ([]); row = record { place = (place 10 5); variables = ([]); inputs = ([]); outputs = ([]); body = (b.Halt (place 10 13) None) } })) ∷ []

call_told : told call_source ≡ Fails (Seq (TypeDiffers (place 8 22) (codes "Char") (codes "Int")))
call_told = refl

abbrev put_source : Program
put_source =
    (d.Process (record { place = (place 1 1); name = (ident 1 6 (codes "p")); parameters = ([]); inputs = ((c.Get s.Int c.TopBot) ∷ []); outputs = ([]); row = record { place = (place 2 5); variables = ([]); inputs = ((ident 2 7 (codes "c")) ∷ []); outputs = ([]); body = (b.Then (b.Put (place 3 9) (e.Character (place 3 13) 97) (ident 3 20 (codes "c"))) (b.Halt (place 4 9) (Some (ident 4 14 (codes "c"))))) } })) ∷ (d.Process (record { place = (place 5 1); name = (ident 5 6 (codes "run")); parameters = ([]); inputs = ([]); outputs = ([]); row = record { place = (place 6 5); variables = ([]); inputs = ([]); outputs = ([]); body = (b.Halt (place 6 13) None) } })) ∷ []

put_told : told put_source ≡ Fails (Seq (TypeDiffers (place 3 13) (codes "Char") (codes "Int")))
put_told = refl

abbrev process_case_source : Program
process_case_source =
    (d.Process (record { place = (place 1 1); name = (ident 1 6 (codes "p")); parameters = (s.Bool ∷ []); inputs = (c.TopBot ∷ []); outputs = ([]); row = record { place = (place 2 5); variables = ((binder.Variable (place 2 5) (codes "b")) ∷ []); inputs = ((ident 2 9 (codes "c")) ∷ []); outputs = ([]); body = (b.Case (place 2 17) (e.Variable (place 2 22) (codes "b")) (b.case_row_then (p.True (place 3 9)) (b.Halt (place 3 17) None) b.no_case_rows)) } })) ∷ (d.Process (record { place = (place 4 1); name = (ident 4 6 (codes "run")); parameters = ([]); inputs = ([]); outputs = ([]); row = record { place = (place 5 5); variables = ([]); inputs = ([]); outputs = ([]); body = (b.Halt (place 5 13) None) } })) ∷ []

process_case_told : told process_case_source ≡ Fails (Seq (NotExhaustive (place 2 17) (codes "False")))
process_case_told = refl

abbrev call_proc_source : Program
call_proc_source =
    (d.Process (record { place = (place 1 1); name = (ident 1 6 (codes "q")); parameters = (s.Int ∷ []); inputs = (c.TopBot ∷ (c.Named (place 1 25) (codes "Console") s.no_types) ∷ []); outputs = (c.TopBot ∷ []); row = record { place = (place 2 5); variables = ((binder.Variable (place 2 5) (codes "n")) ∷ []); inputs = ((ident 2 9 (codes "a")) ∷ (ident 2 12 (codes "b")) ∷ []); outputs = ((ident 2 17 (codes "c")) ∷ []); body = (b.Then (b.Hput (place 3 9) (ident 3 14 (codes "ConsoleClose")) (ident 3 30 (codes "b"))) (b.Then (b.Close (place 4 9) (ident 4 15 (codes "a"))) (b.Then (b.Close (place 5 9) (ident 5 15 (codes "b"))) (b.Halt (place 6 9) (Some (ident 6 14 (codes "c"))))))) } })) ∷ (d.Process (record { place = (place 7 1); name = (ident 7 6 (codes "p")); parameters = ([]); inputs = (c.TopBot ∷ (c.Named (place 7 21) (codes "Console") s.no_types) ∷ []); outputs = (c.TopBot ∷ []); row = record { place = (place 8 5); variables = ([]); inputs = ((ident 8 7 (codes "x")) ∷ (ident 8 10 (codes "y")) ∷ []); outputs = ((ident 8 15 (codes "z")) ∷ []); body = (b.Call (place 8 20) (codes "q") e.no_exprs ((ident 8 25 (codes "x")) ∷ []) ((ident 8 30 (codes "z")) ∷ [])) } })) ∷ (d.Process (record { place = (place 9 1); name = (ident 9 6 (codes "run")); parameters = ([]); inputs = ([]); outputs = ([]); row = record { place = (place 10 5); variables = ([]); inputs = ([]); outputs = ([]); body = (b.Halt (place 10 13) None) } })) ∷ []

call_proc_told : told call_proc_source ≡ Fails (Seq (ArgumentCount (place 8 20) 0 1))
call_proc_told = refl

abbrev heading_count_source : Program
heading_count_source =
    (d.Process (record { place = (place 1 1); name = (ident 1 6 (codes "p")); parameters = (s.Int ∷ []); inputs = (c.TopBot ∷ []); outputs = ([]); row = record { place = (place 2 5); variables = ([]); inputs = ([]); outputs = ([]); body = (b.Halt (place 2 13) None) } })) ∷ (d.Process (record { place = (place 3 1); name = (ident 3 6 (codes "run")); parameters = ([]); inputs = ([]); outputs = ([]); row = record { place = (place 4 5); variables = ([]); inputs = ([]); outputs = ([]); body = (b.Halt (place 4 13) None) } })) ∷ []

heading_count_told : told heading_count_source ≡ Fails (Seq (ArgumentCount (place 2 5) 0 1))
heading_count_told = refl

abbrev heading_before_count_source : Program
heading_before_count_source =
    (d.Process (record { place = (place 1 1); name = (ident 1 6 (codes "p")); parameters = (s.Int ∷ []); inputs = (c.TopBot ∷ c.TopBot ∷ []); outputs = ([]); row = record { place = (place 2 5); variables = ([]); inputs = ((ident 2 7 (codes "c")) ∷ (ident 2 10 (codes "c")) ∷ []); outputs = ([]); body = (b.Halt (place 2 18) (Some (ident 2 23 (codes "c")))) } })) ∷ (d.Process (record { place = (place 3 1); name = (ident 3 6 (codes "run")); parameters = ([]); inputs = ([]); outputs = ([]); row = record { place = (place 4 5); variables = ([]); inputs = ([]); outputs = ([]); body = (b.Halt (place 4 13) None) } })) ∷ []

heading_before_count_told : told heading_before_count_source ≡ Fails (Seq (NameTwiceInPattern (place 2 10) (codes "c")))
heading_before_count_told = refl

abbrev heading_source : Program
heading_source =
    (d.Process (record { place = (place 1 1); name = (ident 1 6 (codes "p")); parameters = (s.Int ∷ []); inputs = (c.TopBot ∷ []); outputs = ([]); row = record { place = (place 2 5); variables = ((binder.Variable (place 2 5) (codes "c")) ∷ []); inputs = ((ident 2 9 (codes "c")) ∷ []); outputs = ([]); body = (b.Halt (place 2 17) (Some (ident 2 22 (codes "c")))) } })) ∷ (d.Process (record { place = (place 3 1); name = (ident 3 6 (codes "run")); parameters = ([]); inputs = ([]); outputs = ([]); row = record { place = (place 4 5); variables = ([]); inputs = ([]); outputs = ([]); body = (b.Halt (place 4 13) None) } })) ∷ []

heading_told : told heading_source ≡ Fails (Seq (NameTwiceInPattern (place 2 9) (codes "c")))
heading_told = refl

abbrev e_E30_box_source : Program
e_E30_box_source =
    (d.Protocol (record { place = (place 1 1); name = (ident 1 10 (codes "Box")); parameters = ((ident 1 14 (codes "a")) ∷ (ident 1 17 (codes "b")) ∷ []); local = (ident 1 23 (codes "S")); constructors = (protocol_line (ident 2 5 (codes "Give")) (c.Put (s.Variable (place 2 17) (codes "a")) (c.Get (s.Variable (place 2 25) (codes "b")) (c.Named (place 2 29) (codes "S") s.no_types))) (ident 2 36 (codes "S")) ∷ protocol_line (ident 3 5 (codes "End")) c.TopBot (ident 3 22 (codes "S")) ∷ []) })) ∷ (d.Process (record { place = (place 4 1); name = (ident 4 6 (codes "p")); parameters = ([]); inputs = ([]); outputs = ((c.Named (place 4 16) (codes "Box") (s.type_then (s.List s.Char) (s.type_then s.Int s.no_types))) ∷ []); row = record { place = (place 5 5); variables = ([]); inputs = ([]); outputs = ((ident 5 10 (codes "c")) ∷ []); body = (b.Then (b.Hput (place 6 9) (ident 6 14 (codes "Give")) (ident 6 22 (codes "c"))) (b.Then (b.Put (place 7 9) (e.Number (place 7 13) (pos 1)) (ident 7 18 (codes "c"))) (b.Halt (place 8 9) (Some (ident 8 14 (codes "c")))))) } })) ∷ (d.Process (record { place = (place 9 1); name = (ident 9 6 (codes "run")); parameters = ([]); inputs = ([]); outputs = ([]); row = record { place = (place 10 5); variables = ([]); inputs = ([]); outputs = ([]); body = (b.Halt (place 10 13) None) } })) ∷ []

e_E30_box_told : told e_E30_box_source ≡ Fails (Seq (TypeDiffers (place 7 13) (codes "Int") (codes "[Char]")))
e_E30_box_told = refl
