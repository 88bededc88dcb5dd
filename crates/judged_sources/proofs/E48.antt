-- Sources judged: the first fault, as the reference tells it.
use Rattle.std.proofs.Common.{◌≡◌, refl, [], ◌∷◌, Some, None, codes}
use Rattle.campl_tree.specs.declared.process.Binder.TheVariants as binder
use Rattle.campl_tree.specs.Plain.SeqType as s
use Rattle.campl_tree.specs.Plain.ChanType as c
use Rattle.campl_tree.specs.Plain.Process as b
use Rattle.campl_tree.specs.Plain.Decl as d
use Rattle.campl_tree.specs.Plain.Decl.{Program}
use Rattle.campl_linear.specs.Faults.{RaceForm}
use Rattle.typed_sources.specs.Trees.{place, ident}
use Rattle.judged_sources.specs.Told.{told}
use Rattle.campl_seqcheck.specs.Judged.{Fails}

abbrev 17_source : Program
17_source =
    (d.Process (record { place = (place 1 1); name = (ident 1 6 (codes "p")); parameters = ([]); inputs = ((c.Put s.Int c.TopBot) ∷ (c.Put s.Int c.TopBot) ∷ []); outputs = ([]); row = record { place = (place 2 5); variables = ([]); inputs = ((ident 2 7 (codes "c")) ∷ (ident 2 10 (codes "d")) ∷ []); outputs = ([]); body = (b.Race (place 2 18) (b.branch_then (ident 3 13 (codes "c")) (b.Then (b.Get (place 4 17) (binder.Wildcard (place 0 0)) (ident 4 26 (codes "c"))) (b.Then (b.Get (place 5 17) (binder.Wildcard (place 0 0)) (ident 5 26 (codes "d"))) (b.Then (b.Close (place 6 17) (ident 6 23 (codes "c"))) (b.Halt (place 7 17) (Some (ident 7 22 (codes "d"))))))) (b.branch_then (ident 8 13 (codes "d")) (b.Then (b.Get (place 9 17) (binder.Wildcard (place 0 0)) (ident 9 26 (codes "d"))) (b.Then (b.Get (place 10 17) (binder.Wildcard (place 0 0)) (ident 10 26 (codes "c"))) (b.Then (b.Close (place 11 17) (ident 11 23 (codes "d"))) (b.Halt (place 12 17) (Some (ident 12 22 (codes "c"))))))) (b.branch_then (ident 13 13 (codes "d")) (b.Then (b.Get (place 14 17) (binder.Wildcard (place 0 0)) (ident 14 26 (codes "d"))) (b.Then (b.Get (place 15 17) (binder.Wildcard (place 0 0)) (ident 15 26 (codes "c"))) (b.Then (b.Close (place 16 17) (ident 16 23 (codes "d"))) (b.Halt (place 17 17) (Some (ident 17 22 (codes "c"))))))) (b.branch_then (ident 18 13 (codes "d")) (b.Then (b.Get (place 19 17) (binder.Wildcard (place 0 0)) (ident 19 26 (codes "d"))) (b.Then (b.Get (place 20 17) (binder.Wildcard (place 0 0)) (ident 20 26 (codes "c"))) (b.Then (b.Close (place 21 17) (ident 21 23 (codes "d"))) (b.Halt (place 22 17) (Some (ident 22 22 (codes "c"))))))) (b.branch_then (ident 23 13 (codes "d")) (b.Then (b.Get (place 24 17) (binder.Wildcard (place 0 0)) (ident 24 26 (codes "d"))) (b.Then (b.Get (place 25 17) (binder.Wildcard (place 0 0)) (ident 25 26 (codes "c"))) (b.Then (b.Close (place 26 17) (ident 26 23 (codes "d"))) (b.Halt (place 27 17) (Some (ident 27 22 (codes "c"))))))) (b.branch_then (ident 28 13 (codes "d")) (b.Then (b.Get (place 29 17) (binder.Wildcard (place 0 0)) (ident 29 26 (codes "d"))) (b.Then (b.Get (place 30 17) (binder.Wildcard (place 0 0)) (ident 30 26 (codes "c"))) (b.Then (b.Close (place 31 17) (ident 31 23 (codes "d"))) (b.Halt (place 32 17) (Some (ident 32 22 (codes "c"))))))) (b.branch_then (ident 33 13 (codes "d")) (b.Then (b.Get (place 34 17) (binder.Wildcard (place 0 0)) (ident 34 26 (codes "d"))) (b.Then (b.Get (place 35 17) (binder.Wildcard (place 0 0)) (ident 35 26 (codes "c"))) (b.Then (b.Close (place 36 17) (ident 36 23 (codes "d"))) (b.Halt (place 37 17) (Some (ident 37 22 (codes "c"))))))) (b.branch_then (ident 38 13 (codes "d")) (b.Then (b.Get (place 39 17) (binder.Wildcard (place 0 0)) (ident 39 26 (codes "d"))) (b.Then (b.Get (place 40 17) (binder.Wildcard (place 0 0)) (ident 40 26 (codes "c"))) (b.Then (b.Close (place 41 17) (ident 41 23 (codes "d"))) (b.Halt (place 42 17) (Some (ident 42 22 (codes "c"))))))) (b.branch_then (ident 43 13 (codes "d")) (b.Then (b.Get (place 44 17) (binder.Wildcard (place 0 0)) (ident 44 26 (codes "d"))) (b.Then (b.Get (place 45 17) (binder.Wildcard (place 0 0)) (ident 45 26 (codes "c"))) (b.Then (b.Close (place 46 17) (ident 46 23 (codes "d"))) (b.Halt (place 47 17) (Some (ident 47 22 (codes "c"))))))) (b.branch_then (ident 48 13 (codes "d")) (b.Then (b.Get (place 49 17) (binder.Wildcard (place 0 0)) (ident 49 26 (codes "d"))) (b.Then (b.Get (place 50 17) (binder.Wildcard (place 0 0)) (ident 50 26 (codes "c"))) (b.Then (b.Close (place 51 17) (ident 51 23 (codes "d"))) (b.Halt (place 52 17) (Some (ident 52 22 (codes "c"))))))) (b.branch_then (ident 53 13 (codes "d")) (b.Then (b.Get (place 54 17) (binder.Wildcard (place 0 0)) (ident 54 26 (codes "d"))) (b.Then (b.Get (place 55 17) (binder.Wildcard (place 0 0)) (ident 55 26 (codes "c"))) (b.Then (b.Close (place 56 17) (ident 56 23 (codes "d"))) (b.Halt (place 57 17) (Some (ident 57 22 (codes "c"))))))) (b.branch_then (ident 58 13 (codes "d")) (b.Then (b.Get (place 59 17) (binder.Wildcard (place 0 0)) (ident 59 26 (codes "d"))) (b.Then (b.Get (place 60 17) (binder.Wildcard (place 0 0)) (ident 60 26 (codes "c"))) (b.Then (b.Close (place 61 17) (ident 61 23 (codes "d"))) (b.Halt (place 62 17) (Some (ident 62 22 (codes "c"))))))) (b.branch_then (ident 63 13 (codes "d")) (b.Then (b.Get (place 64 17) (binder.Wildcard (place 0 0)) (ident 64 26 (codes "d"))) (b.Then (b.Get (place 65 17) (binder.Wildcard (place 0 0)) (ident 65 26 (codes "c"))) (b.Then (b.Close (place 66 17) (ident 66 23 (codes "d"))) (b.Halt (place 67 17) (Some (ident 67 22 (codes "c"))))))) (b.branch_then (ident 68 13 (codes "d")) (b.Then (b.Get (place 69 17) (binder.Wildcard (place 0 0)) (ident 69 26 (codes "d"))) (b.Then (b.Get (place 70 17) (binder.Wildcard (place 0 0)) (ident 70 26 (codes "c"))) (b.Then (b.Close (place 71 17) (ident 71 23 (codes "d"))) (b.Halt (place 72 17) (Some (ident 72 22 (codes "c"))))))) (b.branch_then (ident 73 13 (codes "d")) (b.Then (b.Get (place 74 17) (binder.Wildcard (place 0 0)) (ident 74 26 (codes "d"))) (b.Then (b.Get (place 75 17) (binder.Wildcard (place 0 0)) (ident 75 26 (codes "c"))) (b.Then (b.Close (place 76 17) (ident 76 23 (codes "d"))) (b.Halt (place 77 17) (Some (ident 77 22 (codes "c"))))))) (b.branch_then (ident 78 13 (codes "d")) (b.Then (b.Get (place 79 17) (binder.Wildcard (place 0 0)) (ident 79 26 (codes "d"))) (b.Then (b.Get (place 80 17) (binder.Wildcard (place 0 0)) (ident 80 26 (codes "c"))) (b.Then (b.Close (place 81 17) (ident 81 23 (codes "d"))) (b.Halt (place 82 17) (Some (ident 82 22 (codes "c"))))))) (b.branch_then (ident 83 13 (codes "d")) (b.Then (b.Get (place 84 17) (binder.Wildcard (place 0 0)) (ident 84 26 (codes "d"))) (b.Then (b.Get (place 85 17) (binder.Wildcard (place 0 0)) (ident 85 26 (codes "c"))) (b.Then (b.Close (place 86 17) (ident 86 23 (codes "d"))) (b.Halt (place 87 17) (Some (ident 87 22 (codes "c"))))))) b.no_branches)))))))))))))))))) } })) ∷ (d.Process (record { place = (place 88 1); name = (ident 88 6 (codes "run")); parameters = ([]); inputs = ([]); outputs = ([]); row = record { place = (place 89 5); variables = ([]); inputs = ([]); outputs = ([]); body = (b.Halt (place 89 13) None) } })) ∷ []

17_told : told 17_source ≡ Fails (RaceForm (place 2 18))
17_told = refl

abbrev body_source : Program
body_source =
    (d.Process (record { place = (place 1 1); name = (ident 1 6 (codes "p")); parameters = ([]); inputs = ((c.Put s.Int c.TopBot) ∷ (c.Put s.Int c.TopBot) ∷ []); outputs = ([]); row = record { place = (place 2 5); variables = ([]); inputs = ((ident 2 7 (codes "c")) ∷ (ident 2 10 (codes "d")) ∷ []); outputs = ([]); body = (b.Race (place 2 18) (b.branch_then (ident 3 13 (codes "c")) (b.Halt (place 3 18) (Some (ident 3 23 (codes "c")))) (b.branch_then (ident 4 13 (codes "d")) (b.Then (b.Get (place 5 17) (binder.Wildcard (place 0 0)) (ident 5 26 (codes "d"))) (b.Then (b.Get (place 6 17) (binder.Wildcard (place 0 0)) (ident 6 26 (codes "c"))) (b.Then (b.Close (place 7 17) (ident 7 23 (codes "d"))) (b.Halt (place 8 17) (Some (ident 8 22 (codes "c"))))))) b.no_branches))) } })) ∷ (d.Process (record { place = (place 9 1); name = (ident 9 6 (codes "run")); parameters = ([]); inputs = ([]); outputs = ([]); row = record { place = (place 10 5); variables = ([]); inputs = ([]); outputs = ([]); body = (b.Halt (place 10 13) None) } })) ∷ []

body_told : told body_source ≡ Fails (RaceForm (place 3 13))
body_told = refl

abbrev not_at_get_source : Program
not_at_get_source =
    (d.Process (record { place = (place 1 1); name = (ident 1 6 (codes "p")); parameters = ([]); inputs = ((c.Put s.Int c.TopBot) ∷ (c.Get s.Int c.TopBot) ∷ []); outputs = ([]); row = record { place = (place 2 5); variables = ([]); inputs = ((ident 2 7 (codes "c")) ∷ (ident 2 10 (codes "d")) ∷ []); outputs = ([]); body = (b.Race (place 2 18) (b.branch_then (ident 3 13 (codes "c")) (b.Then (b.Get (place 4 17) (binder.Wildcard (place 0 0)) (ident 4 26 (codes "c"))) (b.Then (b.Get (place 5 17) (binder.Wildcard (place 0 0)) (ident 5 26 (codes "d"))) (b.Then (b.Close (place 6 17) (ident 6 23 (codes "c"))) (b.Halt (place 7 17) (Some (ident 7 22 (codes "d"))))))) (b.branch_then (ident 8 13 (codes "d")) (b.Then (b.Get (place 9 17) (binder.Wildcard (place 0 0)) (ident 9 26 (codes "d"))) (b.Then (b.Get (place 10 17) (binder.Wildcard (place 0 0)) (ident 10 26 (codes "c"))) (b.Then (b.Close (place 11 17) (ident 11 23 (codes "d"))) (b.Halt (place 12 17) (Some (ident 12 22 (codes "c"))))))) b.no_branches))) } })) ∷ (d.Process (record { place = (place 13 1); name = (ident 13 6 (codes "run")); parameters = ([]); inputs = ([]); outputs = ([]); row = record { place = (place 14 5); variables = ([]); inputs = ([]); outputs = ([]); body = (b.Halt (place 14 13) None) } })) ∷ []

not_at_get_told : told not_at_get_source ≡ Fails (RaceForm (place 8 13))
not_at_get_told = refl

abbrev one_source : Program
one_source =
    (d.Process (record { place = (place 1 1); name = (ident 1 6 (codes "p")); parameters = ([]); inputs = ((c.Put s.Int c.TopBot) ∷ (c.Put s.Int c.TopBot) ∷ []); outputs = ([]); row = record { place = (place 2 5); variables = ([]); inputs = ((ident 2 7 (codes "c")) ∷ (ident 2 10 (codes "d")) ∷ []); outputs = ([]); body = (b.Race (place 2 18) (b.branch_then (ident 3 13 (codes "c")) (b.Then (b.Get (place 4 17) (binder.Wildcard (place 0 0)) (ident 4 26 (codes "c"))) (b.Then (b.Get (place 5 17) (binder.Wildcard (place 0 0)) (ident 5 26 (codes "d"))) (b.Then (b.Close (place 6 17) (ident 6 23 (codes "c"))) (b.Halt (place 7 17) (Some (ident 7 22 (codes "d"))))))) b.no_branches)) } })) ∷ (d.Process (record { place = (place 8 1); name = (ident 8 6 (codes "run")); parameters = ([]); inputs = ([]); outputs = ([]); row = record { place = (place 9 5); variables = ([]); inputs = ([]); outputs = ([]); body = (b.Halt (place 9 13) None) } })) ∷ []

one_told : told one_source ≡ Fails (RaceForm (place 2 18))
one_told = refl

abbrev other_get_source : Program
other_get_source =
    (d.Process (record { place = (place 1 1); name = (ident 1 6 (codes "p")); parameters = ([]); inputs = ((c.Put s.Int c.TopBot) ∷ (c.Put s.Int c.TopBot) ∷ []); outputs = ([]); row = record { place = (place 2 5); variables = ([]); inputs = ((ident 2 7 (codes "c")) ∷ (ident 2 10 (codes "d")) ∷ []); outputs = ([]); body = (b.Race (place 2 18) (b.branch_then (ident 3 13 (codes "c")) (b.Then (b.Get (place 4 17) (binder.Wildcard (place 0 0)) (ident 4 26 (codes "c"))) (b.Then (b.Get (place 5 17) (binder.Wildcard (place 0 0)) (ident 5 26 (codes "d"))) (b.Then (b.Close (place 6 17) (ident 6 23 (codes "c"))) (b.Halt (place 7 17) (Some (ident 7 22 (codes "d"))))))) (b.branch_then (ident 8 13 (codes "d")) (b.Then (b.Get (place 9 17) (binder.Wildcard (place 0 0)) (ident 9 26 (codes "c"))) (b.Then (b.Get (place 10 17) (binder.Wildcard (place 0 0)) (ident 10 26 (codes "d"))) (b.Then (b.Close (place 11 17) (ident 11 23 (codes "c"))) (b.Halt (place 12 17) (Some (ident 12 22 (codes "d"))))))) b.no_branches))) } })) ∷ (d.Process (record { place = (place 13 1); name = (ident 13 6 (codes "run")); parameters = ([]); inputs = ([]); outputs = ([]); row = record { place = (place 14 5); variables = ([]); inputs = ([]); outputs = ([]); body = (b.Halt (place 14 13) None) } })) ∷ []

other_get_told : told other_get_source ≡ Fails (RaceForm (place 8 13))
other_get_told = refl

abbrev twice_source : Program
twice_source =
    (d.Process (record { place = (place 1 1); name = (ident 1 6 (codes "p")); parameters = ([]); inputs = ((c.Put s.Int c.TopBot) ∷ (c.Put s.Int c.TopBot) ∷ []); outputs = ([]); row = record { place = (place 2 5); variables = ([]); inputs = ((ident 2 7 (codes "c")) ∷ (ident 2 10 (codes "d")) ∷ []); outputs = ([]); body = (b.Race (place 2 18) (b.branch_then (ident 3 13 (codes "c")) (b.Then (b.Get (place 4 17) (binder.Wildcard (place 0 0)) (ident 4 26 (codes "c"))) (b.Then (b.Get (place 5 17) (binder.Wildcard (place 0 0)) (ident 5 26 (codes "d"))) (b.Then (b.Close (place 6 17) (ident 6 23 (codes "c"))) (b.Halt (place 7 17) (Some (ident 7 22 (codes "d"))))))) (b.branch_then (ident 8 13 (codes "c")) (b.Then (b.Get (place 9 17) (binder.Wildcard (place 0 0)) (ident 9 26 (codes "c"))) (b.Then (b.Get (place 10 17) (binder.Wildcard (place 0 0)) (ident 10 26 (codes "d"))) (b.Then (b.Close (place 11 17) (ident 11 23 (codes "c"))) (b.Halt (place 12 17) (Some (ident 12 22 (codes "d"))))))) b.no_branches))) } })) ∷ (d.Process (record { place = (place 13 1); name = (ident 13 6 (codes "run")); parameters = ([]); inputs = ([]); outputs = ([]); row = record { place = (place 14 5); variables = ([]); inputs = ([]); outputs = ([]); body = (b.Halt (place 14 13) None) } })) ∷ []

twice_told : told twice_source ≡ Fails (RaceForm (place 8 13))
twice_told = refl

abbrev e_E48_fork_source : Program
e_E48_fork_source =
    (d.Process (record { place = (place 1 1); name = (ident 1 6 (codes "p")); parameters = ([]); inputs = ((c.Par c.TopBot c.TopBot) ∷ (c.Put s.Int c.TopBot) ∷ []); outputs = ([]); row = record { place = (place 2 5); variables = ([]); inputs = ((ident 2 7 (codes "c")) ∷ (ident 2 10 (codes "d")) ∷ []); outputs = ([]); body = (b.Race (place 2 18) (b.branch_then (ident 3 9 (codes "c")) (b.Fork (place 3 14) (ident 3 19 (codes "c")) (ident 4 13 (codes "a")) (b.Then (b.Get (place 5 17) (binder.Wildcard (place 0 0)) (ident 5 26 (codes "d"))) (b.Then (b.Close (place 6 17) (ident 6 23 (codes "d"))) (b.Halt (place 7 17) (Some (ident 7 22 (codes "a")))))) (ident 8 13 (codes "b")) (b.Halt (place 8 18) (Some (ident 8 23 (codes "b"))))) (b.branch_then (ident 9 9 (codes "d")) (b.Then (b.Get (place 10 13) (binder.Wildcard (place 0 0)) (ident 10 22 (codes "d"))) (b.Then (b.Close (place 11 13) (ident 11 19 (codes "d"))) (b.Halt (place 12 13) (Some (ident 12 18 (codes "c")))))) b.no_branches))) } })) ∷ (d.Process (record { place = (place 13 1); name = (ident 13 6 (codes "run")); parameters = ([]); inputs = ([]); outputs = ([]); row = record { place = (place 14 5); variables = ([]); inputs = ([]); outputs = ([]); body = (b.Halt (place 14 13) None) } })) ∷ []

e_E48_fork_told : told e_E48_fork_source ≡ Fails (RaceForm (place 3 9))
e_E48_fork_told = refl

abbrev e_E48_other_receipt_source : Program
e_E48_other_receipt_source =
    (d.Process (record { place = (place 1 1); name = (ident 1 6 (codes "p")); parameters = ([]); inputs = ((c.Tensor c.TopBot c.TopBot) ∷ (c.Put s.Int c.TopBot) ∷ []); outputs = ([]); row = record { place = (place 2 5); variables = ([]); inputs = ((ident 2 7 (codes "c")) ∷ (ident 2 10 (codes "d")) ∷ []); outputs = ([]); body = (b.Race (place 2 18) (b.branch_then (ident 3 9 (codes "c")) (b.Then (b.Get (place 4 13) (binder.Wildcard (place 0 0)) (ident 4 22 (codes "d"))) (b.Then (b.Split (place 5 13) (ident 5 19 (codes "c")) (ident 5 26 (codes "a")) (ident 5 29 (codes "b"))) (b.Then (b.Close (place 6 13) (ident 6 19 (codes "a"))) (b.Then (b.Close (place 7 13) (ident 7 19 (codes "b"))) (b.Halt (place 8 13) (Some (ident 8 18 (codes "d")))))))) (b.branch_then (ident 9 9 (codes "d")) (b.Then (b.Get (place 10 13) (binder.Wildcard (place 0 0)) (ident 10 22 (codes "d"))) (b.Then (b.Split (place 11 13) (ident 11 19 (codes "c")) (ident 11 26 (codes "a")) (ident 11 29 (codes "b"))) (b.Then (b.Close (place 12 13) (ident 12 19 (codes "a"))) (b.Then (b.Close (place 13 13) (ident 13 19 (codes "b"))) (b.Halt (place 14 13) (Some (ident 14 18 (codes "d")))))))) b.no_branches))) } })) ∷ (d.Process (record { place = (place 15 1); name = (ident 15 6 (codes "run")); parameters = ([]); inputs = ([]); outputs = ([]); row = record { place = (place 16 5); variables = ([]); inputs = ([]); outputs = ([]); body = (b.Halt (place 16 13) None) } })) ∷ []

e_E48_other_receipt_told : told e_E48_other_receipt_source ≡ Fails (RaceForm (place 3 9))
e_E48_other_receipt_told = refl
