-- Every call that is made of a run is answered rightly.
use Rattle.std.proofs.Common.{◌≡◌, ℕ, zero, suc, ◌+◌, ◌-◌, ◌<◌, ◌≤◌, Bool, true, false, cond, not, ltb, List, [], ◌∷◌, ◌++◌, length, get_or, set, replicate, is_some, Some, None, Ok, Err, Option, Result, sym, refl, ap, ◌∙◌, subst, inl, inr, arith, length-set}
use Rattle.std.proofs.lemmas.Bool.{cases_eq, eq-eqb, ne_eqb, ltb-true, leb-true}
use Rattle.std.proofs.lemmas.List.{get_or-set_same, get_or-set_other}
use Rattle.std.specs.List.{slice_get}
use Rattle.opset.specs.Meaning.{Meaning, Laws}
use Rattle.table.specs.Syntax.{Node, Table, variable_count}
use Rattle.rules.specs.Types.{type_of, variable_typed}
use Rattle.schedule.specs.Need.{needs}
use Rattle.streams.specs.Streams.{Env}
use Rattle.streams.specs.History.{main, row, idle, restart as restarted-event}
use Rattle.streams.specs.Statements.{MachineShows, StreamsTyped}
use Rattle.execution.specs.Words.{need_at, reset_by, step_by}
use Rattle.execution.specs.Sound.{main_in, inputs_in, outputs_in}
use Rattle.execution.specs.Statements.{reset_of, step_of, table_blocks}
use Rattle.layout.specs.Layout.{Front, Runs}
use Rattle.realization.specs.Realizes.{Realizes}
use Rattle.realization.proofs.Cells.{stored_here, stored_other}
use Rattle.calls.specs.declared.ended.Ended.{Ended}
use Rattle.calls.specs.declared.ended.Ended.TheVariants.{Never, ByStep, ByPass}
use Rattle.calls.specs.declared.refusal.Refusal.{Refusal}
use Rattle.calls.specs.declared.refusal.Refusal.TheVariants.{Memory, Port, Mistyped, Early, Twice}
use Rattle.calls.specs.Calls.{State, at_rest, in_instant, none_offered, unless, outcome, set_refusal, enough, moving_refusal, offer_refusal, read_refusal, has_ended, defaulted, reading_of, Opens, BeginsInstant, Offers, Steps, Passes, Restarts, Reads}
use Rattle.calls.specs.Story.{Ask, begin, offer, step, pass, restart, read, Answer, done, value, refused, Call, Story, offers_in, offered_also, input_of, row_of, story_of}
use Rattle.calls.specs.Answers.{main_node, refusal_for, Shows, GrantedRight, RightBy, Right}
use Rattle.calls.specs.Made.{Made, opened, begun, begin_refused, offered, offer_refused, stepped, step_refused, passed, pass_refused, restarted, restart_refused, was_read, read_refused, foreign_begin, foreign_offer, foreign_step, foreign_pass, foreign_restart, foreign_read}
use Rattle.calls.proofs.Tests.{ok_none, ok_same, err_some, granted_none, granted_some, both_none, unless_none}
use Rattle.calls.proofs.Rows.{row_at_lem}
use Rattle.calls.proofs.Inputs.{Offered, filled_in, row_fits, input_valued}
use Rattle.calls.proofs.Invariant.{Inv, inputs_free, was_opened, was_passed, was_restarted, was_stepped}
use Rattle.calls.proofs.Refused.{set_right, moving_right, offer_right, read_right}
use Rattle.calls.proofs.Readings.{reading_shows}

-- what holds of a state
abbrev pub StateRight : {V : Type 0} → Meaning V → Table → Story V → State → List V → Type 0
StateRight m T s (at_rest e) cells = (s.instant ≡ None) × Inv m T s.history e cells
StateRight {V} m T s (in_instant e marks) cells =
    (offers : Env V) × (s.instant ≡ Some offers) × Offered m (main_node T) offers marks cells × Inv m T s.history e cells

none_marked : (n i : ℕ) → get_or (replicate n false) i false ≡ false
none_marked zero i = refl
none_marked (suc n) zero = refl
none_marked (suc n) (suc i) = none_marked n i

none_offered_lem : {V : Type 0} (m : Meaning V) (N : Node) (cells : List V) → Offered m N (λ i. None) none_offered cells
none_offered_lem m N cells = record {
  long = refl;
  marked = none_marked 16;
  value = λ i v e. absurd (let z : ◌≡◌ {A = ℕ} 0 1 = cc in omega arith);
}

-- one input more is offered a value
module _ {V : Type 0} (m : Meaning V) (N : Node) (offers : Env V) (marks : List Bool) (cells : List V) (off : Offered m N offers marks cells)
    (i : ℕ) (v : V) (within : i < N.inputs) (few : N.inputs ≤ 16) (room : N.inputs ≤ length cells) (typed : m.belongs v (type_of N i) ≡ true) where
  one_more : Offered m N (offered_also offers i v) (set marks i true) (set cells i v)
  one_more = record {
    long = length-set marks i true ∙ off.long;
    marked = λ j. elim (cases_eq j i) [
      | inl e ↦ ap (λ k. get_or (set marks i true) k false) e ∙ get_or-set_same marks i true false (omega (arith, off.long))
          ∙ sym (ap (λ b. is_some (cond b (Some v) (offers j))) (eq-eqb j i e))
      | inr ne ↦ get_or-set_other marks i j true false ne ∙ off.marked j ∙ sym (ap (λ b. is_some (cond b (Some v) (offers j))) (ne_eqb j i ne))
    ];
    value = λ j u q. elim (cases_eq j i) [
      | inl e ↦
          let same : u ≡ v = let w = ap (λ b. cond b (Some v) (offers j)) (eq-eqb j i e) in let z : Some u ≡ Some v = sym q ∙ w in cc in (
            omega arith,
            ap (slice_get (set cells i v)) e ∙ stored_here cells i (Some v) v (omega arith) refl ∙ ap Some (sym same),
            ap (λ k. m.belongs u (type_of N k)) e ∙ ap (λ w. m.belongs w (type_of N i)) same ∙ typed,
          )
      | inr ne ↦
          let o = off.value j u (sym (ap (λ b. cond b (Some v) (offers j)) (ne_eqb j i ne)) ∙ q) in
          (o.0, stored_other cells i (Some v) j ne ∙ o.1, o.2)
    ];
  }

module _ {V : Type 0} (m : Meaning V) (laws : Laws m) (own : ℕ) (T : Table) (ws : List ℕ) (F : Front own T ws) (runs : Runs m T ws)
    (R : Realizes m T (main T)) (shows : MachineShows m T) (types : StreamsTyped m T)
    (some : 0 < length T)
    (ports : (main_node T).inputs + (main_node T).outputs ≤ get_or (needs T) (main T) 0)
    (few : ((main_node T).inputs ≤ 16) × ((main_node T).inputs + (main_node T).outputs ≤ variable_count (main_node T)))
    (typed : (x : ℕ) → x < variable_count (main_node T) → variable_typed m (main_node T) x ≡ true) where
  abbrev told : List (Call V) → Story V
  told cs = story_of m (main_node T) cs

  main_is : main_in ws ≡ main T
  main_is = ap (λ n. n - 1) F.nodes

  need_is : need_at ws (main_in ws) ≡ get_or (needs T) (main T) 0
  need_is = ap (need_at ws) main_is ∙ F.needed (main T) (omega arith)

  -- a memory that is long enough
  enough_room : (cells : List V) → enough ws cells ≡ true → get_or (needs T) (main T) 0 ≤ length cells
  enough_room cells e = omega (arith, leb-true (need_at ws (main_in ws)) (length cells) e, need_is)

  reset_is : (cells : List V) → reset_by m ws (main_in ws) cells ≡ reset_of m (table_blocks m T (main T)) T (main T) cells
  reset_is cells = ap (λ k. reset_by m ws k cells) main_is ∙ runs.resets (main T) (omega arith) cells

  step_is : (cells : List V) → step_by m ws (main_in ws) cells ≡ step_of m (table_blocks m T (main T)) T (main T) cells
  step_is cells = ap (λ k. step_by m ws k cells) main_is ∙ runs.steps (main T) (omega arith) cells

  -- a call that is granted, and one that is refused
  right_granted : (s : Story V) (ask : Ask V) (a : Answer V) → refusal_for m (main_node T) s ask ≡ None → GrantedRight m T s ask a
      → RightBy m T s ask a (refusal_for m (main_node T) s ask)
  right_granted s ask a e g = subst (RightBy m T s ask a) (sym e) g

  right_refused : (s : Story V) (ask : Ask V) (why : Refusal) → refusal_for m (main_node T) s ask ≡ Some why
      → RightBy m T s ask (refused why) (refusal_for m (main_node T) s ask)
  right_refused s ask why e = subst (RightBy m T s ask (refused why)) (sym e) refl

  abbrev Answered : List (Call V) → State → List V → Type 0
  Answered cs st cells = StateRight m T (told cs) st cells × Right m T cs

  -- a state that a call leaves
  become : (s : Story V) (cells : List V) {st st' : State} → st ≡ st' → StateRight m T s st' cells → StateRight m T s st cells
  become s cells e r = subst (λ x. StateRight m T s x cells) (sym e) r

  after_open : {before cells : List V} {e : Ended} → Opens m own ws before (Ok e) cells → Answered [] (at_rest e) cells
  after_open {before} {cells} {e} o =
      let none = ok_none (moving_refusal own ws before) Never e o.answer in
      let room = enough_room before (unless_none (enough ws before) Memory (sym (moving_right own T ws F m before) ∙ none)) in
      let memory : cells ≡ reset_of m (table_blocks m T (main T)) T (main T) before =
      o.memory ∙ granted_none (moving_refusal own ws before) _ before none ∙ reset_is before in
      let I = was_opened m T R shows ports before room in
      ((refl, subst (λ x. Inv m T [] x cells) (sym (ok_same (moving_refusal own ws before) Never e o.answer)) (subst (Inv m T [] Never) (sym memory) I)), tt)

  module _ (cs : List (Call V)) (r : Right m T cs) where
    after_begin : (e : Ended) (st : State) (cells : List V) → StateRight m T (told cs) (at_rest e) cells → BeginsInstant own ws e (Ok tt) st
        → Answered (record { ask = begin; answer = done } ∷ cs) st cells
    after_begin e st cells h b =
        let story : Story V = record { history = (told cs).history; instant = Some (λ i. None) } in (
          become story cells (b.state ∙ granted_none (set_refusal own ws) _ _ (set_right own T ws F)) ((λ i. None), refl, none_offered_lem m (main_node T) cells, h.1),
          (refl, r),
        )

    -- with the set that admitted the table a begin and a pass are never refused
    never_refused : {A : Type 0} (why : Refusal) → ◌≡◌ {A = Result Unit Refusal} (Err why) (outcome (set_refusal own ws) tt) → A
    never_refused why e =
        let some-why = err_some (set_refusal own ws) tt why e in
        let none = set_right own T ws F in
        absurd (let z : ◌≡◌ {A = ℕ} 0 1 = cc in omega arith)

    after_offer : (e : Ended) (marks : List Bool) (st : State) (cells after : List V) (i : ℕ) (v : V) → StateRight m T (told cs) (in_instant e marks) cells
        → Offers m own ws e marks cells i v (Ok tt) st after
        → Answered (record { ask = offer (enough ws cells) i v; answer = done } ∷ cs) st after
    after_offer e marks st cells after i v h o =
        let none = ok_none (offer_refusal m own ws cells marks i v) tt tt o.answer in
        let agree = offer_right own T ws F m (told cs) h.0 marks cells cells h.1 h.2 i v in
        let rules = sym agree ∙ none in
        let b = both_none (unless (enough ws cells) Memory) _ rules in
        let c = both_none (unless (ltb i (main_node T).inputs) Port) _ b.1 in
        let d = both_none (unless (not (is_some (offers_in (told cs).instant i))) Twice) _ c.1 in
        let within = ltb-true i (main_node T).inputs (unless_none (ltb i (main_node T).inputs) Port c.0) in
        let belongs = unless_none (m.belongs v (type_of (main_node T) i)) Mistyped d.1 in
        let room = h.3.room in
        let offers = h.0 in
        let story : Story V = record { history = (told cs).history; instant = Some (offered_also (offers_in (told cs).instant) i v) } in
        let written : after ≡ set cells i v = o.memory ∙ granted_none (offer_refusal m own ws cells marks i v) _ cells none in
        let more = one_more m (main_node T) offers marks cells h.2 i v within few.0 (omega (arith, room)) belongs in
        let left = inputs_free m T R shows ports (told cs).history e cells (set cells i v) h.3 (length-set cells i v)
        (λ a l. stored_other cells i (Some v) a (λ q. omega arith)) in
        let same : Some (offered_also (offers_in (told cs).instant) i v) ≡ Some (offered_also offers i v) = ap (λ o. Some (offered_also (offers_in o) i v)) h.1 in (
          become story after (o.state ∙ ap (in_instant e) (granted_none (offer_refusal m own ws cells marks i v) _ marks none))
              (subst (StateRight m T story (in_instant e (set marks i true))) (sym written) (offered_also offers i v, same, more, left)),
          (right_granted (told cs) (offer (enough ws cells) i v) done rules refl, r),
        )

    after_refused_offer : (e : Ended) (marks : List Bool) (st : State) (cells given after : List V) (i : ℕ) (v : V) (why : Refusal)
        → StateRight m T (told cs) (in_instant e marks) cells → Offers m own ws e marks given i v (Err why) st after
        → Answered (record { ask = offer (enough ws given) i v; answer = refused why } ∷ cs) st cells
    after_refused_offer e marks st cells given after i v why h o =
        let by = err_some (offer_refusal m own ws given marks i v) tt why o.answer in
        let agree = offer_right own T ws F m (told cs) h.0 marks cells given h.1 h.2 i v in (
          become (told cs) cells (o.state ∙ ap (in_instant e) (granted_some (offer_refusal m own ws given marks i v) _ marks why by)) h,
          (right_refused (told cs) (offer (enough ws given) i v) why (sym agree ∙ by), r),
        )

    after_step : (e : Ended) (marks : List Bool) (st : State) (cells after : List V) → StateRight m T (told cs) (in_instant e marks) cells
        → Steps m own ws e marks cells (Ok tt) st after
        → Answered (record { ask = step (enough ws cells); answer = done } ∷ cs) st after
    after_step e marks st cells after h o =
        let none = ok_none (moving_refusal own ws cells) tt tt o.answer in
        let rules = sym (moving_right own T ws F m cells) ∙ none in
        let offers = h.0 in
        let I = h.3 in
        let N = main_node T in
        let start = defaulted m ws marks (inputs_in ws) cells in
        let start_is : start ≡ defaulted m ws marks N.inputs cells = ap (λ n. defaulted m ws marks n cells) F.inputs in
        let room : N.inputs ≤ length cells = omega (arith, I.room) in
        let small : N.inputs ≤ variable_count N = omega (arith, few.1) in
        let f = filled_in m laws N ws small typed F.types offers marks cells h.2 room N.inputs (omega arith) in
        let fit = row_fits m laws N ws small typed F.types offers marks cells h.2 room in
        let valued = input_valued m laws N ws small typed F.types offers marks cells h.2 room in
        let J = inputs_free m T R shows ports (told cs).history e cells (defaulted m ws marks N.inputs cells) I f.long f.past in
        let done-so = was_stepped m T R shows ports types.long (told cs).history e (defaulted m ws marks N.inputs cells) (row_of m N offers) J fit
        (λ x l. f.input x l ∙ sym (row_at_lem (input_of m N offers) N.inputs valued x l)) in
        let written : after ≡ step_of m (table_blocks m T (main T)) T (main T) (defaulted m ws marks N.inputs cells) =
        o.memory ∙ granted_none (moving_refusal own ws cells) _ cells none ∙ ap (step_by m ws (main_in ws)) start_is ∙ step_is (defaulted m ws marks N.inputs cells) in
        let same : row_of m N (offers_in (told cs).instant) ≡ row_of m N offers = ap (λ o. row_of m N (offers_in o)) h.1 in
        let story : Story V = record { history = (told cs).history ++ row (row_of m N (offers_in (told cs).instant)) ∷ []; instant = None } in (
          become story after (o.state ∙ ap at_rest (granted_none (moving_refusal own ws cells) ByStep e none))
              (refl, subst (λ vs. Inv m T ((told cs).history ++ row vs ∷ []) ByStep after) (sym same) (subst (Inv m T ((told cs).history ++ row (row_of m N offers) ∷ []) ByStep) (sym written) done-so)),
          (right_granted (told cs) (step (enough ws cells)) done rules refl, r),
        )

    after_refused_step : (e : Ended) (marks : List Bool) (st : State) (cells given after : List V) (why : Refusal)
        → StateRight m T (told cs) (in_instant e marks) cells → Steps m own ws e marks given (Err why) st after
        → Answered (record { ask = step (enough ws given); answer = refused why } ∷ cs) st cells
    after_refused_step e marks st cells given after why h o =
        let by = err_some (moving_refusal own ws given) tt why o.answer in
        let story : Story V = record { history = (told cs).history; instant = None } in (
          become story cells (o.state ∙ ap at_rest (granted_some (moving_refusal own ws given) ByStep e why by)) (refl, h.3),
          (right_refused (told cs) (step (enough ws given)) why (sym (moving_right own T ws F m given) ∙ by), r),
        )

    after_pass : (e : Ended) (marks : List Bool) (st : State) (cells : List V) → StateRight m T (told cs) (in_instant e marks) cells
        → Passes own ws e (Ok tt) st → Answered (record { ask = pass; answer = done } ∷ cs) st cells
    after_pass e marks st cells h o =
        let story : Story V = record { history = (told cs).history ++ idle ∷ []; instant = None } in (
          become story cells (o.state ∙ ap at_rest (granted_none (set_refusal own ws) ByPass e (set_right own T ws F)))
              (refl, was_passed m T R shows ports (told cs).history e cells h.3),
          (refl, r),
        )

    after_restart : (e : Ended) (cells after : List V) → StateRight m T (told cs) (at_rest e) cells → Restarts m own ws cells (Ok tt) after
        → Answered (record { ask = restart (enough ws cells); answer = done } ∷ cs) (at_rest e) after
    after_restart e cells after h o =
        let none = ok_none (moving_refusal own ws cells) tt tt o.answer in
        let written : after ≡ reset_of m (table_blocks m T (main T)) T (main T) cells =
        o.memory ∙ granted_none (moving_refusal own ws cells) _ cells none ∙ reset_is cells in
        let again = was_restarted m T R shows ports (told cs).history e cells h.1 in (
          (refl, subst (Inv m T ((told cs).history ++ restarted-event ∷ []) e) (sym written) again),
          (right_granted (told cs) (restart (enough ws cells)) done (sym (moving_right own T ws F m cells) ∙ none) refl, r),
        )

    after_refused_restart : (e : Ended) (cells given after : List V) (why : Refusal) → StateRight m T (told cs) (at_rest e) cells
        → Restarts m own ws given (Err why) after
        → Answered (record { ask = restart (enough ws given); answer = refused why } ∷ cs) (at_rest e) cells
    after_refused_restart e cells given after why h o =
        let by = err_some (moving_refusal own ws given) tt why o.answer in
        (h, (right_refused (told cs) (restart (enough ws given)) why (sym (moving_right own T ws F m given) ∙ by), r))

    after_read : (e : Ended) (cells : List V) (j : ℕ) (o : Option V) → StateRight m T (told cs) (at_rest e) cells → Reads own ws e cells j (Ok o)
        → Answered (record { ask = read (enough ws cells) j; answer = value o } ∷ cs) (at_rest e) cells
    after_read e cells j o h q =
        let none = ok_none (read_refusal own ws cells e j) (reading_of ws cells e j) o q in
        let is = ok_same (read_refusal own ws cells e j) (reading_of ws cells e j) o q in
        let rules = sym (read_right own T ws F m (told cs) e cells cells h.1.ended j) ∙ none in
        let a = both_none (set_refusal own ws) _ none in
        let b = both_none (unless (has_ended e) Early) _ a.1 in
        let c = both_none (unless (enough ws cells) Memory) _ b.1 in
        let within = ltb-true j (outputs_in ws) (unless_none (ltb j (outputs_in ws)) Port c.1) in
        let shown = reading_shows m T ws F.inputs shows types ports few.1 (told cs).history e cells j h.1
        (unless_none (has_ended e) Early b.0) (omega (arith, F.outputs)) in (
          h,
          (
            right_granted (told cs) (read (enough ws cells) j) (value o) rules
                (o, refl, subst (Shows m T (told cs).history j) (sym is) shown),
            r,
          ),
        )

    after_refused_read : (e : Ended) (cells given : List V) (j : ℕ) (why : Refusal) → StateRight m T (told cs) (at_rest e) cells → Reads own ws e given j (Err why)
        → Answered (record { ask = read (enough ws given) j; answer = refused why } ∷ cs) (at_rest e) cells
    after_refused_read e cells given j why h q =
        let by = err_some (read_refusal own ws given e j) (reading_of ws given e j) why q in
        (h, (right_refused (told cs) (read (enough ws given) j) why (sym (read_right own T ws F m (told cs) e cells given h.1.ended j) ∙ by), r))

  pub answered : {cs : List (Call V)} {st : State} {cells : List V} → Made m own ws cs st cells → Answered cs st cells
  answered (opened o) = after_open o
  answered (begun {cs} {e} {s} {cells} d b) = let h = answered d in after_begin cs h.1 e s cells h.0 b
  answered (begin_refused {cs} {e} {s} {cells} {why} d b) = let h = answered d in never_refused cs h.1 why b.answer
  answered (offered {cs} {e} {os} {s} {cells} {after} {i} {v} d o) = let h = answered d in after_offer cs h.1 e os s cells after i v h.0 o
  answered (offer_refused {cs} {e} {os} {s} {cells} {given} {after} {i} {v} {why} d o) =
      let h = answered d in after_refused_offer cs h.1 e os s cells given after i v why h.0 o
  answered (stepped {cs} {e} {os} {s} {cells} {after} d o) = let h = answered d in after_step cs h.1 e os s cells after h.0 o
  answered (step_refused {cs} {e} {os} {s} {cells} {given} {after} {why} d o) =
      let h = answered d in after_refused_step cs h.1 e os s cells given after why h.0 o
  answered (passed {cs} {e} {os} {s} {cells} d o) = let h = answered d in after_pass cs h.1 e os s cells h.0 o
  answered (pass_refused {cs} {e} {os} {s} {cells} {why} d o) = let h = answered d in never_refused cs h.1 why o.answer
  answered (restarted {cs} {e} {cells} {after} d o) = let h = answered d in after_restart cs h.1 e cells after h.0 o
  answered (restart_refused {cs} {e} {cells} {given} {after} {why} d o) = let h = answered d in after_refused_restart cs h.1 e cells given after why h.0 o
  answered (was_read {cs} {e} {cells} {j} {o} d q) = let h = answered d in after_read cs h.1 e cells j o h.0 q
  answered (read_refused {cs} {e} {cells} {j} {why} d given q) = let h = answered d in after_refused_read cs h.1 e cells given j why h.0 q
  answered (foreign_begin d) = let h = answered d in (h.0, (refl, h.1))
  answered (foreign_offer d) = let h = answered d in (h.0, (refl, h.1))
  answered (foreign_step d) = let h = answered d in ((refl, h.0.3), (refl, h.1))
  answered (foreign_pass d) = let h = answered d in ((refl, h.0.3), (refl, h.1))
  answered (foreign_restart d) = let h = answered d in (h.0, (refl, h.1))
  answered (foreign_read d) = let h = answered d in (h.0, (refl, h.1))
