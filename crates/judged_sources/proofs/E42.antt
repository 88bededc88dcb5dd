-- Sources judged: the first fault, as the reference tells it.
use Rattle.std.proofs.Common.{◌≡◌, refl, [], ◌∷◌, Some, None, codes, pos}
use Rattle.campl_tree.specs.declared.service.Side.TheVariants.{Input, Output}
use Rattle.campl_tree.specs.Plain.SeqType as s
use Rattle.campl_tree.specs.Plain.ChanType as c
use Rattle.campl_tree.specs.Plain.Expr as e
use Rattle.campl_tree.specs.Plain.Process as b
use Rattle.campl_tree.specs.Plain.Decl as d
use Rattle.campl_tree.specs.Plain.Decl.{Program}
use Rattle.campl_types.specs.SameType.{nowhere}
use Rattle.campl_linear.specs.Faults.{WrongAction}
use Rattle.typed_sources.specs.Trees.{place, ident}
use Rattle.judged_sources.specs.Told.{protocol_line, told}
use Rattle.campl_seqcheck.specs.Judged.{Fails}

abbrev halt_before_E41_source : Program
halt_before_E41_source =
    (d.Process (record { place = (place 1 1); name = (ident 1 6 (codes "p")); parameters = ([]); inputs = ((c.Put s.Int c.TopBot) ∷ c.TopBot ∷ []); outputs = ([]); row = record { place = (place 2 5); variables = ([]); inputs = ((ident 2 7 (codes "c")) ∷ (ident 2 10 (codes "d")) ∷ []); outputs = ([]); body = (b.Halt (place 2 18) (Some (ident 2 23 (codes "c")))) } })) ∷ (d.Process (record { place = (place 3 1); name = (ident 3 6 (codes "run")); parameters = ([]); inputs = ([]); outputs = ([]); row = record { place = (place 4 5); variables = ([]); inputs = ([]); outputs = ([]); body = (b.Halt (place 4 13) None) } })) ∷ []

halt_before_E41_told : told halt_before_E41_source ≡ Fails (WrongAction (place 2 18) (codes "c") (c.Put s.Int c.TopBot) Input)
halt_before_E41_told = refl

abbrev hcase_row_source : Program
hcase_row_source =
    (d.Protocol (record { place = (place 1 1); name = (ident 1 10 (codes "P")); parameters = ([]); local = (ident 1 15 (codes "S")); constructors = (protocol_line (ident 2 5 (codes "A")) c.TopBot (ident 2 20 (codes "S")) ∷ protocol_line (ident 3 5 (codes "B")) (c.Put s.Int (c.Named (place 3 20) (codes "S") s.no_types)) (ident 3 26 (codes "S")) ∷ []) })) ∷ (d.Process (record { place = (place 4 1); name = (ident 4 6 (codes "p")); parameters = ([]); inputs = ((c.Named (place 4 13) (codes "P") s.no_types) ∷ []); outputs = ([]); row = record { place = (place 5 5); variables = ([]); inputs = ((ident 5 7 (codes "c")) ∷ []); outputs = ([]); body = (b.Hcase (place 5 15) (ident 5 21 (codes "c")) (b.hcase_row_then (ident 6 9 (codes "A")) (b.Halt (place 6 14) (Some (ident 6 19 (codes "c")))) (b.hcase_row_then (ident 7 9 (codes "ConsolePut")) (b.Halt (place 7 23) (Some (ident 7 28 (codes "c")))) b.no_hcase_rows))) } })) ∷ (d.Process (record { place = (place 8 1); name = (ident 8 6 (codes "run")); parameters = ([]); inputs = ([]); outputs = ([]); row = record { place = (place 9 5); variables = ([]); inputs = ([]); outputs = ([]); body = (b.Halt (place 9 13) None) } })) ∷ []

hcase_row_told : told hcase_row_source ≡ Fails (WrongAction (place 7 9) (codes "c") (c.Named nowhere (codes "P") s.no_types) Input)
hcase_row_told = refl

abbrev hcase_source : Program
hcase_source =
    (d.Protocol (record { place = (place 1 1); name = (ident 1 10 (codes "P")); parameters = ([]); local = (ident 1 15 (codes "S")); constructors = (protocol_line (ident 2 5 (codes "A")) c.TopBot (ident 2 20 (codes "S")) ∷ protocol_line (ident 3 5 (codes "B")) (c.Put s.Int (c.Named (place 3 20) (codes "S") s.no_types)) (ident 3 26 (codes "S")) ∷ []) })) ∷ (d.Process (record { place = (place 4 1); name = (ident 4 6 (codes "p")); parameters = ([]); inputs = ([]); outputs = ((c.Named (place 4 16) (codes "P") s.no_types) ∷ []); row = record { place = (place 5 5); variables = ([]); inputs = ([]); outputs = ((ident 5 10 (codes "c")) ∷ []); body = (b.Hcase (place 5 15) (ident 5 21 (codes "c")) (b.hcase_row_then (ident 6 9 (codes "A")) (b.Halt (place 6 14) (Some (ident 6 19 (codes "c")))) b.no_hcase_rows)) } })) ∷ (d.Process (record { place = (place 7 1); name = (ident 7 6 (codes "run")); parameters = ([]); inputs = ([]); outputs = ([]); row = record { place = (place 8 5); variables = ([]); inputs = ([]); outputs = ([]); body = (b.Halt (place 8 13) None) } })) ∷ []

hcase_told : told hcase_source ≡ Fails (WrongAction (place 5 15) (codes "c") (c.Named nowhere (codes "P") s.no_types) Output)
hcase_told = refl

abbrev hput_other_source : Program
hput_other_source =
    (d.Process (record { place = (place 1 1); name = (ident 1 6 (codes "run")); parameters = ([]); inputs = ((c.Named (place 1 15) (codes "Console") s.no_types) ∷ []); outputs = ([]); row = record { place = (place 2 5); variables = ([]); inputs = ((ident 2 7 (codes "console")) ∷ []); outputs = ([]); body = (b.Then (b.Hput (place 3 9) (ident 3 14 (codes "StringTerminalPut")) (ident 3 35 (codes "console"))) (b.Then (b.Put (place 4 9) (e.Text (place 4 13) (codes "Hello")) (ident 4 24 (codes "console"))) (b.Then (b.Hput (place 5 9) (ident 5 14 (codes "ConsoleClose")) (ident 5 30 (codes "console"))) (b.Halt (place 6 9) (Some (ident 6 14 (codes "console"))))))) } })) ∷ []

hput_other_told : told hput_other_source ≡ Fails (WrongAction (place 3 9) (codes "console") (c.Named nowhere (codes "Console") s.no_types) Input)
hput_other_told = refl

abbrev neg_source : Program
neg_source =
    (d.Process (record { place = (place 1 1); name = (ident 1 6 (codes "p")); parameters = ([]); inputs = ((c.Neg c.TopBot) ∷ []); outputs = ([]); row = record { place = (place 2 5); variables = ([]); inputs = ((ident 2 7 (codes "c")) ∷ []); outputs = ([]); body = (b.Halt (place 2 15) (Some (ident 2 20 (codes "c")))) } })) ∷ (d.Process (record { place = (place 3 1); name = (ident 3 6 (codes "run")); parameters = ([]); inputs = ([]); outputs = ([]); row = record { place = (place 4 5); variables = ([]); inputs = ([]); outputs = ([]); body = (b.Halt (place 4 13) None) } })) ∷ []

neg_told : told neg_source ≡ Fails (WrongAction (place 2 15) (codes "c") (c.Neg c.TopBot) Input)
neg_told = refl

abbrev order_source : Program
order_source =
    (d.Process (record { place = (place 1 1); name = (ident 1 6 (codes "p")); parameters = ([]); inputs = ((c.Put s.Int c.TopBot) ∷ []); outputs = ([]); row = record { place = (place 2 5); variables = ([]); inputs = ((ident 2 7 (codes "c")) ∷ []); outputs = ([]); body = (b.Then (b.Put (place 3 9) (e.Character (place 3 13) 97) (ident 3 20 (codes "c"))) (b.Halt (place 4 9) (Some (ident 4 14 (codes "c"))))) } })) ∷ (d.Process (record { place = (place 5 1); name = (ident 5 6 (codes "run")); parameters = ([]); inputs = ([]); outputs = ([]); row = record { place = (place 6 5); variables = ([]); inputs = ([]); outputs = ([]); body = (b.Halt (place 6 13) None) } })) ∷ []

order_told : told order_source ≡ Fails (WrongAction (place 3 9) (codes "c") (c.Put s.Int c.TopBot) Input)
order_told = refl

abbrev types_printed_source : Program
types_printed_source =
    (d.Process (record { place = (place 1 1); name = (ident 1 6 (codes "p")); parameters = ([]); inputs = ((c.Par (c.Tensor c.TopBot (c.Neg c.TopBot)) (c.Put (s.Pair s.Int (s.List s.Char)) (c.Par c.TopBot c.TopBot))) ∷ []); outputs = ([]); row = record { place = (place 2 5); variables = ([]); inputs = ((ident 2 7 (codes "c")) ∷ []); outputs = ([]); body = (b.Then (b.Close (place 3 9) (ident 3 15 (codes "c"))) (b.Halt (place 4 9) None)) } })) ∷ (d.Process (record { place = (place 5 1); name = (ident 5 6 (codes "run")); parameters = ([]); inputs = ([]); outputs = ([]); row = record { place = (place 6 5); variables = ([]); inputs = ([]); outputs = ([]); body = (b.Halt (place 6 13) None) } })) ∷ []

types_printed_told : told types_printed_source ≡ Fails (WrongAction (place 3 9) (codes "c") (c.Par (c.Tensor c.TopBot (c.Neg c.TopBot)) (c.Put (s.Pair s.Int (s.List s.Char)) (c.Par c.TopBot c.TopBot))) Input)
types_printed_told = refl

abbrev e_E42_after_source : Program
e_E42_after_source =
    (d.Protocol (record { place = (place 1 1); name = (ident 1 10 (codes "Box")); parameters = ((ident 1 14 (codes "a")) ∷ (ident 1 17 (codes "b")) ∷ []); local = (ident 1 23 (codes "S")); constructors = (protocol_line (ident 2 5 (codes "Give")) (c.Put (s.Variable (place 2 17) (codes "a")) (c.Get (s.Variable (place 2 25) (codes "b")) (c.Named (place 2 29) (codes "S") s.no_types))) (ident 2 36 (codes "S")) ∷ protocol_line (ident 3 5 (codes "End")) c.TopBot (ident 3 22 (codes "S")) ∷ []) })) ∷ (d.Process (record { place = (place 4 1); name = (ident 4 6 (codes "p")); parameters = ([]); inputs = ([]); outputs = ((c.Named (place 4 16) (codes "Box") (s.type_then (s.List s.Char) (s.type_then s.Int s.no_types))) ∷ []); row = record { place = (place 5 5); variables = ([]); inputs = ([]); outputs = ((ident 5 10 (codes "c")) ∷ []); body = (b.Then (b.Hput (place 6 9) (ident 6 14 (codes "Give")) (ident 6 22 (codes "c"))) (b.Then (b.Put (place 7 9) (e.Text (place 7 13) (codes "a")) (ident 7 20 (codes "c"))) (b.Then (b.Put (place 8 9) (e.Number (place 8 13) (pos 1)) (ident 8 18 (codes "c"))) (b.Then (b.Hput (place 9 9) (ident 9 14 (codes "End")) (ident 9 21 (codes "c"))) (b.Halt (place 10 9) (Some (ident 10 14 (codes "c")))))))) } })) ∷ (d.Process (record { place = (place 11 1); name = (ident 11 6 (codes "run")); parameters = ([]); inputs = ([]); outputs = ([]); row = record { place = (place 12 5); variables = ([]); inputs = ([]); outputs = ([]); body = (b.Halt (place 12 13) None) } })) ∷ []

e_E42_after_told : told e_E42_after_source ≡ Fails (WrongAction (place 8 9) (codes "c") (c.Get s.Int (c.Named nowhere (codes "Box") (s.type_then (s.List s.Char) (s.type_then s.Int s.no_types)))) Output)
e_E42_after_told = refl

abbrev e_E42_box_source : Program
e_E42_box_source =
    (d.Protocol (record { place = (place 1 1); name = (ident 1 10 (codes "Box")); parameters = ((ident 1 14 (codes "a")) ∷ (ident 1 17 (codes "b")) ∷ []); local = (ident 1 23 (codes "S")); constructors = (protocol_line (ident 2 5 (codes "Give")) (c.Put (s.Variable (place 2 17) (codes "a")) (c.Get (s.Variable (place 2 25) (codes "b")) (c.Named (place 2 29) (codes "S") s.no_types))) (ident 2 36 (codes "S")) ∷ protocol_line (ident 3 5 (codes "End")) c.TopBot (ident 3 22 (codes "S")) ∷ []) })) ∷ (d.Process (record { place = (place 4 1); name = (ident 4 6 (codes "p")); parameters = ([]); inputs = ((c.Named (place 4 13) (codes "Box") (s.type_then (s.List s.Char) (s.type_then s.Int s.no_types))) ∷ []); outputs = ([]); row = record { place = (place 5 5); variables = ([]); inputs = ((ident 5 7 (codes "c")) ∷ []); outputs = ([]); body = (b.Halt (place 5 15) (Some (ident 5 20 (codes "c")))) } })) ∷ (d.Process (record { place = (place 6 1); name = (ident 6 6 (codes "run")); parameters = ([]); inputs = ([]); outputs = ([]); row = record { place = (place 7 5); variables = ([]); inputs = ([]); outputs = ([]); body = (b.Halt (place 7 13) None) } })) ∷ []

e_E42_box_told : told e_E42_box_source ≡ Fails (WrongAction (place 5 15) (codes "c") (c.Named nowhere (codes "Box") (s.type_then (s.List s.Char) (s.type_then s.Int s.no_types))) Input)
e_E42_box_told = refl

abbrev r09_source : Program
r09_source =
    (d.Process (record { place = (place 1 1); name = (ident 1 6 (codes "run")); parameters = ([]); inputs = ([]); outputs = ((c.Named (place 1 18) (codes "StringTerminal") s.no_types) ∷ []); row = record { place = (place 2 5); variables = ([]); inputs = ([]); outputs = ((ident 2 10 (codes "t")) ∷ []); body = (b.Then (b.Hput (place 3 9) (ident 3 14 (codes "StringTerminalGet")) (ident 3 35 (codes "t"))) (b.Then (b.Put (place 4 9) (e.Text (place 4 13) (codes "x")) (ident 4 20 (codes "t"))) (b.Halt (place 5 9) (Some (ident 5 14 (codes "t")))))) } })) ∷ []

r09_told : told r09_source ≡ Fails (WrongAction (place 4 9) (codes "t") (c.Get (s.List s.Char) (c.Named nowhere (codes "StringTerminal") s.no_types)) Output)
r09_told = refl
