-- The least point at which the map gives a reply: more changes do not move it, and it makes a record right.
use Rattle.std.proofs.Common.{◌≡◌, ℕ, ◌≤◌, List, ◌++◌, length, Some, sym, ap, ◌∙◌, inl, inr, arith}
use Rattle.std.proofs.lemmas.Bool.{cases_lt}
use Rattle.std.proofs.lemmas.List.{length-append}
use Rattle.kv_block.specs.declared.changes.Change.{Change}
use Rattle.map_model.specs.declared.calls.Call.{Call}
use Rattle.map_model.specs.declared.calls.Reply.{Reply}
use Rattle.map_model.specs.declared.records.Record.{Record}
use Rattle.map_model.specs.Machine.{reply_of, map_at}
use Rattle.map_model.specs.History.{IsRight}
use Rattle.map_model.specs.Moments.{IsFirst}
use Rattle.map_model.proofs.Added.{map_at-append}

-- a point among the changes stays the least where more changes come
pub first_stays : (C D : List Change) (lo : ℕ) (call : Call) (reply : Reply) (point : ℕ) → point ≤ length C → IsFirst C lo call reply point → IsFirst (C ++ D) lo call reply point
first_stays C D lo call reply point l h =
    let more = length-append C D in
    record {
      from = h.from;
      upto = omega (arith, more);
      gives = λ _. ap (λ m. reply_of m call) (map_at-append C D point l) ∙ h.gives l;
      earlier = λ n low less e. h.earlier n low less (ap (λ m. reply_of m call) (sym (map_at-append C D n (omega arith))) ∙ e);
    }

-- the least is at most any
pub first_at_most : (C : List Change) (lo : ℕ) (call : Call) (reply : Reply) (point n : ℕ) → IsFirst C lo call reply point → lo ≤ n → reply_of (map_at C n) call ≡ Some reply → point ≤ n
first_at_most C lo call reply point n h low e = elim (cases_lt n point) [ inl less ↦ absurd (h.earlier n low less e) | inr least ↦ least ]

-- a record with the least point is right where some number between its bounds gives its reply
pub right_from_first : (C : List Change) (r : Record) (n : ℕ) → IsFirst C r.lo r.call r.reply r.point → r.lo ≤ n → n ≤ r.hi → r.hi ≤ length C
    → reply_of (map_at C n) r.call ≡ Some r.reply → IsRight C r
right_from_first C r n h low high seen e =
    let most = first_at_most C r.lo r.call r.reply r.point n h low e in
    record { reply = h.gives (omega arith); within = record { least = h.from; most = omega arith; seen = seen } }

-- and where its point is its upper bound
pub right_at_point : (C : List Change) (r : Record) (n : ℕ) → IsFirst C r.lo r.call r.reply r.point → r.hi ≡ r.point → r.lo ≤ n → n ≤ length C
    → reply_of (map_at C n) r.call ≡ Some r.reply → IsRight C r
right_at_point C r n h same low high e =
    let most = first_at_most C r.lo r.call r.reply r.point n h low e in
    record { reply = h.gives (omega arith); within = record { least = h.from; most = omega arith; seen = omega arith } }
