use Rattle.std.proofs.Common.{◌≡◌, ℕ, List, length, None}
use Rattle.key_hash.specs.Placing.{placed}
use Rattle.verb_log.specs.declared.entry.Verb.{Verb}
use Rattle.verbs.specs.Logs.{Begins}
use Rattle.verbs.specs.Programs.{asked}
use Rattle.client_seat.specs.declared.view.Deed.{Deed}
use Rattle.call_machine.specs.CallRest.{call_rest}
use Rattle.running_client.specs.Traces.{text}
use Rattle.running_client.specs.Cached.{acts_of_call, Through, Filled}
use Rattle.running_client.specs.Running.{IsRunning}
use Rattle.running_client.proofs.drive.drive.Given as goal

abbrev pub invariant-loop-done : goal.invariant-loop-done
invariant-loop-done g l =
    let before = l.initial.node in
    record {
      home : l.node.home ≡ before.home;
      client : l.node.client ≡ before.client;
      settled : asked (call_rest l.machine) ≡ None;
      begins : Begins before.front l.node.front;
      running : (trace : List (Verb × ℕ)) × (left : ℕ) × (deeds : List Deed) × (length trace ≡ l.done) × Filled before trace l.node deeds
          × Through before l.initial.cache (acts_of_call before.home.setting l.state l.call trace) l.node l.cache
          × IsRunning before.home.setting before.client l.call l.state before.front left l.node.front (text (placed (g.P.Placer.listed l.placer)) l.machine) trace;
    }
