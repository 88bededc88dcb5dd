-- What the judgements of names cite.
use Rattle.std.proofs.Common.{◌≡◌, ◌≢◌, ◌∙◌, refl, sym, ap, ℕ, suc, Bool, true, false, List, [], ◌∷◌, length, map, eqb, eqb-true, eq-eqb, subst, Option, Result, Err, if◌then◌else◌}
use Rattle.std.proofs.lemmas.List.{drop_more, drop_all}
use Rattle.campl_tree.specs.declared.place.Place.{Place}
use Rattle.campl_tree.specs.declared.types.SeqType.{SeqType}
use Rattle.campl_tree.specs.View.{view_seq, seq_types}
use Rattle.campl_tree.proofs.Views.{seq_views, chan_views, pattern_views, expr_views, process_views, view_body-out, view_hcase_row-out, view_branch-out, view_part-out, view_case_row-out}
use Rattle.campl_types.specs.declared.fault.NameFault.{NameFault}
use Rattle.campl_types.specs.declared.fault.NameFault.TheVariants.{TypeArguments}
use Rattle.campl_types.specs.Known.{is_local, counted, a_protocol, in_seqs, in_chan}
use Rattle.campl_types.specs.Names.{Name}
use Rattle.campl_names.specs.Scope.{heading}
use Rattle.campl_names.specs.Judges.{Judges}
use Rattle.campl_types.specs.World.{World, type_named}
use Rattle.campl_tree.specs.Plain.ChanType.{Named}
use Rattle.std.specs.Result.{IsErr, IsErrAnd}
use Rattle.campl_types.specs.Substitution.{list_of}
use Rattle.campl_names.proofs.Judged.{judged, judged_all, err-first}
use Rattle.campl_names.proofs.Scopes.{with-append, kept-under, expr-under, body-under, expr-alone, body-alone, body-behind, kept-behind}

pub count-seen : (ts : List SeqType) → length (list_of (seq_types (map view_seq ts))) ≡ length ts
count-seen [] = refl
count-seen (t ∷ ts) = ap suc (count-seen ts)

-- a fault of a protocol's name
pub named-stopped : {A B : Type 0} → (w : World) (ts : List SeqType) (n : ℕ) (at : Place) (x : Name) (l : Option Name) (params : List Name) (fault : NameFault) (r : Result B NameFault)
    → n ≡ length ts → Judges {A = A} (if is_local l x then counted at n 0 else a_protocol (type_named w x) at x n) (Err fault) → IsErr r × IsErrAnd r (λ e. e ≡ fault)
    → Judges {A = B} (in_chan w (heading params l) (Named at x (seq_types (map view_seq ts)))) r
named-stopped {A} w ts n at x l params fault r i j told =
    err-first _ (in_seqs w (heading params l) (seq_types (map view_seq ts))) fault r
    (subst (λ m. Judges {A = A} (if is_local l x then counted at m 0 else a_protocol (type_named w x) at x m) (Err fault)) (i ∙ sym (count-seen ts)) j) told

pub counted-same : (at : Place) (a b : ℕ) → a ≡ b → counted at a b ≡ []
counted-same at a b i = rw (eq-eqb a b i) refl

pub counted-other : (at : Place) (a b : ℕ) → a ≢ b → counted at a b ≡ TypeArguments at a b ∷ []
counted-other at a b n = go (eqb a b) refl
  where
    go : (c : Bool) → eqb a b ≡ c → (if c then [] else TypeArguments at a b ∷ []) ≡ TypeArguments at a b ∷ []
    go true i = absurd (n (eqb-true a b i))
    go false i = refl

pub ruleset types = (judged, counted-same, counted-other)

pub ruleset seqs = (judged, seq_views, count-seen)

pub ruleset chans = (judged, chan_views)

pub ruleset named_chans = (judged, count-seen)

pub ruleset patterns = (judged, pattern_views)

pub ruleset binds = (pattern_views, with-append, drop_more, drop_all)

pub ruleset exprs = (judged, expr_views)

pub ruleset expr_rows = (judged, expr_views, expr-under, kept-under)

pub ruleset bodies = (judged, view_body-out, body-behind, kept-behind)

pub ruleset lasts = (judged, process_views)

pub ruleset rows = (judged, view_hcase_row-out, view_branch-out, view_part-out)

pub ruleset case_rows = (judged, view_case_row-out, body-under, kept-under)

pub ruleset function_rows = (judged, expr-alone)

pub ruleset processes = (judged, body-alone)

pub ruleset variables = (seq_views, with-append, drop_more, drop_all)
