-- Demand 2 of the calls, as to appends: which are accepted, what they write, that it reads back through the entry call and the item list
-- after any further appends, and that entries that read alike are the same bytes. By the model's theorems, as each call is the model's.
use Prim.Native.Nat.{ℕ, ◌+◌, ◌*◌}
use mathlib.Core.Path.{◌≡◌, refl, ap, sym, ◌∙◌, subst}
use mathlib.Core.Bool.{Bool, true, false}
use mathlib.Core.List.{List, [], ◌∷◌}
use mathlib.Core.Option.{Option, none, some}
use native.Mathlib.Omega.{arith}
use lib.ListN.{length, take, drop}
use Rattle.lists.specs.Tests.{clash}
use Rattle.model.specs.Directory.{shape_of}
use Rattle.model.specs.Rules.{lowest_bad}
use Rattle.model.specs.Answers.{Answer, done, refused, refuse, refuse_at, first_of, answer}
use Rattle.model.specs.Reading as reading
use Rattle.model.specs.Append as model
use Rattle.model.specs.Histories.{Lent, tail_after, is_refused, append_to, after, Accepted, grown}
use Rattle.model.specs.Claims.{header_objects_in, NumberGiven, ObjectsGiven, ItemsGiven, Back, WroteOneSlot}
use Rattle.claims.proofs.Handed.{demand2-for}
use Rattle.codec.specs.Eight.{slot_size, bad_frame, in_log}
use Rattle.entries.specs.declared.calls.Info.{Info}
use Rattle.entries.specs.Answers.{found_in, info_of}
use Rattle.answers.specs.Refusals.{checked_in, Answered}
use Rattle.append.specs.Answers.{tail_in}
use Rattle.calls.specs.Values.{AppendCall, seen, Grows, left_by, last_log, EntryCall, ItemsCall, part}
use Rattle.calls.specs.Claims.{lent_at, CallsAccept, CallsWrite, CallsKeepGood, CallsReadBack, CallsItemsPlace, CallsSameBytes}
use Rattle.calls.proofs.Promises.{append-promise, check-promise, entry-promise, items-promise, items-place}
use Rattle.calls.proofs.Histories.{lent, requests, left_after, left_grown, history, whole-left}
use Rattle.std.specs.Prelude.{Ok, Err}

-- ---- accepted

answered : (c : AppendCall) → is_refused (append_to (shape_of (seen c).dir) (lent_at c) (seen c).request).new_tail ≡ is_refused (tail_in (seen c).answer)
answered c = ap (λ (x : model.Appended). is_refused x.new_tail) (sym (append-promise c))

pub calls-accept : CallsAccept
calls-accept c =
    let e = (demand2-for (seen c).dir).accepts_exactly (lent_at c) (seen c).request in
    (λ h. e.0 (answered c ∙ h), λ u. sym (answered c) ∙ e.1 u)

-- an accepted append over the log at l, which is the one it was given, with directory dir: what the model says of it, in the words of the values
module _ (dir : List ℕ) (l : Lent) (c : AppendCall) (t : ℕ) (of : (seen c).dir ≡ dir) (given : lent_at c ≡ l) (d : (seen c).answer ≡ Ok t) where
  pub accepted-so : Accepted (shape_of dir) l (seen c).request
  accepted-so =
      ap (λ (x : Lent). is_refused (model.append (shape_of dir) x.bytes x.tail (seen c).request).new_tail) (sym given)
      ∙ ap (λ (x : List ℕ). is_refused (model.append (shape_of x) (seen c).bytes (seen c).tail (seen c).request).new_tail) (sym of)
      ∙ answered c ∙ ap (λ x. is_refused (tail_in x)) d

  pub after-so : after (shape_of dir) l (seen c).request ≡ lent (seen c).left t
  after-so =
      left_after dir c l.bytes l.tail of (ap (λ (x : Lent). x.bytes) given) (ap (λ (x : Lent). x.tail) given)
      ∙ ap (λ x. lent (seen c).left (tail_after (seen c).tail (tail_in x))) d

  -- the log some appends later
  pub later-so : (later : List AppendCall) → Grows dir (seen c).left t later → grown (shape_of dir) (after (shape_of dir) l (seen c).request) (requests later) ≡ left_by (seen c).left t later
  later-so later g = ap (λ (x : Lent). grown (shape_of dir) x (requests later)) after-so ∙ left_grown dir (seen c).left t later g

pub calls-write : CallsWrite
calls-write c t d =
    let w : WroteOneSlot (shape_of (seen c).dir) (lent_at c) (seen c).request = (demand2-for (seen c).dir).writes_one_slot (lent_at c) (seen c).request (accepted-so (seen c).dir (lent_at c) c t refl refl d) in
    let left : (after (shape_of (seen c).dir) (lent_at c) (seen c).request).bytes ≡ (seen c).left = ap (λ (x : Lent). x.bytes) (after-so (seen c).dir (lent_at c) c t refl refl d) in
    let next : t ≡ (seen c).tail + 1 =
    ap (tail_after 0) (sym (ap tail_in d) ∙ ap (λ (x : model.Appended). x.new_tail) (append-promise c) ∙ w.answers) in
    record {
      next = next;
      size = ap length (sym left) ∙ w.size;
      front = ap (take (slot_size * (seen c).tail)) (sym left) ∙ w.front;
      rest = ap (λ (n : ℕ). drop (slot_size * n) (seen c).left) next ∙ ap (drop (slot_size * ((seen c).tail + 1))) (sym left) ∙ w.rest
          ∙ ap (λ (n : ℕ). drop (slot_size * n) (seen c).bytes) (sym next);
    }

-- ---- read back

-- an entry call that is done tells an entry
told : (x : Answered Info) (i : reading.Info) → found_in x ≡ done i → (m : Info) × (x ≡ Ok m) × (i ≡ info_of m)
told (Ok m) i e = (m, refl, sym (ap (in_done (info_of m)) e))
  where
    in_done : reading.Info → Answer reading.Info → reading.Info
    in_done w (done z) = z
    in_done w (refused r) = w
told (Err r) i e = clash true refl (ap is_refused e)

pub calls-read-back : CallsReadBack
calls-read-back c t d later g e i =
    let l : Lent = lent_at c in
    let q : model.Request = (seen c).request in
    let same = later-so (seen c).dir l c t refl refl d later g in
    let back : Back (shape_of (seen c).dir) l q (left_by (seen c).left t later) = subst (Back (shape_of (seen c).dir) l q) same ((demand2-for (seen c).dir).reads_back l q (accepted-so (seen c).dir l c t refl refl d) (requests later)) in
    let m = told e.call.answer back.info (entry-promise (seen c).dir (left_by (seen c).left t later) l.tail e ∙ back.reads) in (
      m.0,
      m.1,
      record {
        kind = ap (λ (x : reading.Info). x.kind) (sym m.2) ∙ back.kind;
        number = subst (λ (x : reading.Info). NumberGiven (in_log l) q x.number) m.2 back.number;
        objects = subst (λ (x : reading.Info). ObjectsGiven (in_log l) q (header_objects_in x)) m.2 back.objects;
        ascend = ap (λ (x : reading.Info). Rattle.lists.specs.Sets.ascending lib.Dec.ltb (header_objects_in x)) (sym m.2) ∙ back.ascend;
        items = subst (ItemsGiven q) (sym (items-promise (seen c).dir (left_by (seen c).left t later) l.tail i)) back.items;
        first = ap (λ (x : reading.Info). x.first) (sym m.2) ∙ back.first;
        second = ap (λ (x : reading.Info). x.second) (sym m.2) ∙ back.second;
      },
    )

pub calls-items-place : CallsItemsPlace
calls-items-place d log o c = items-place d log o c

-- ---- the same bytes

module _ (dir : List ℕ) (l : Lent) (c : AppendCall) (t : ℕ) (of : (seen c).dir ≡ dir) (given : lent_at c ≡ l) (d : (seen c).answer ≡ Ok t) where
  at_tail : (seen c).tail ≡ l.tail
  at_tail = ap (λ (x : Lent). x.tail) given

  info-so : (x : EntryCall (seen c).dir (lent (seen c).left t) (seen c).tail) → reading.entry_call (shape_of dir) (in_log (after (shape_of dir) l (seen c).request)) l.tail ≡ found_in x.call.answer
  info-so x =
      ap (λ (y : Lent). reading.entry_call (shape_of dir) (in_log y) l.tail) (after-so dir l c t of given d)
      ∙ ap (reading.entry_call (shape_of dir) (in_log (lent (seen c).left t))) (sym at_tail)
      ∙ ap (λ (y : List ℕ). reading.entry_call (shape_of y) (in_log (lent (seen c).left t)) (seen c).tail) (sym of) ∙ sym (entry-promise (seen c).dir (lent (seen c).left t) (seen c).tail x)

  items-so : (x : ItemsCall (seen c).dir (lent (seen c).left t) (seen c).tail) → reading.item_list (shape_of dir) (in_log (after (shape_of dir) l (seen c).request)) l.tail ≡ part x
  items-so x =
      ap (λ (y : Lent). reading.item_list (shape_of dir) (in_log y) l.tail) (after-so dir l c t of given d)
      ∙ ap (reading.item_list (shape_of dir) (in_log (lent (seen c).left t))) (sym at_tail)
      ∙ ap (λ (y : List ℕ). reading.item_list (shape_of y) (in_log (lent (seen c).left t)) (seen c).tail) (sym of) ∙ sym (items-promise (seen c).dir (lent (seen c).left t) (seen c).tail x)

pub calls-same-bytes : CallsSameBytes
calls-same-bytes c d t u same-dir given dc dd e i f j m n em en k x o first second p =
    let dir : List ℕ = (seen c).dir in
    let l : Lent = lent_at c in
    let same = (demand2-for dir).same_bytes l (seen c).request (seen d).request (info_of m) (info_of n)
    (accepted-so dir l c t refl refl dc) (accepted-so dir l d u (sym same-dir) (sym given) dd)
    (info-so dir l c t refl refl dc e ∙ ap found_in em) (info-so dir l d u (sym same-dir) (sym given) dd f ∙ ap found_in en)
    k x o first second (items-so dir l c t refl refl dc i ∙ p ∙ sym (items-so dir l d u (sym same-dir) (sym given) dd j)) in
    ap (λ (y : Lent). y.bytes) (sym (after-so dir l c t refl refl dc)) ∙ same ∙ ap (λ (y : Lent). y.bytes) (after-so dir l d u (sym same-dir) (sym given) dd)

-- ---- the log stays good

-- an answer's number, 0 for done
abbrev number_in : Answer (Unit {0}) → ℕ
number_in (done x) = 0
number_in (refused r) = r.number

never-two : (x : Option ℕ) (b : Bool) → number_in (answer (first_of (refuse_at 15 x ∷ refuse 1 b ∷ refuse_at 2 none ∷ [])) tt) ≡ 2 → ⊥
never-two (some k) b e = omega (arith, e)
never-two none true e = omega (arith, e)
never-two none false e = omega (arith, e)

pub calls-keep-good : CallsKeepGood
unfolding reading.check
calls-keep-good a c o e =
    let good : lowest_bad (shape_of a.dir) (in_log (last_log a)) ≡ none =
    ap (λ (l : Lent). lowest_bad (shape_of a.dir) (in_log l)) (sym (whole-left a)) ∙ (demand2-for a.dir).keeps_good (history a) in
    let told : number_in (answer (first_of (refuse_at 15 (shape_of a.dir).fault ∷ refuse 1 (bad_frame (in_log (last_log a))) ∷ refuse_at 2 none ∷ [])) tt) ≡ 2 =
    ap (λ (x : Option ℕ). number_in (answer (first_of (refuse_at 15 (shape_of a.dir).fault ∷ refuse 1 (bad_frame (in_log (last_log a))) ∷ refuse_at 2 x ∷ [])) tt)) (sym good)
    ∙ ap number_in (sym (check-promise a.dir (last_log a) c)) ∙ ap (λ x. number_in (checked_in x)) e in
    never-two (shape_of a.dir).fault (bad_frame (in_log (last_log a))) told
