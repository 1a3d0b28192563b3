use Rattle.std.proofs.Common.{rules, ◌≡◌, ◌<◌, sym, ap, subst, ◌∙◌, arith}
use Rattle.node_words.specs.declared.geometry.Geometry.{Geometry}
use Rattle.client_seat.specs.Seated.{Home, Seated}
use Rattle.running_bench.proofs.Takes.{node_starts, node_ends}
use Rattle.running_bench.proofs.worker.Worker.of.Goals as goal

pub invariant_of-result : goal.invariant_of-result
invariant_of-result c =
    let g = c.geometry-geometry.result in
    let e : g ≡ c.of.result.home.setting.geometry = c.geometry-geometry.ensures ∙ ap (λ (h : Home). h.setting.geometry) (sym c.requires) ∙ ap (λ (s : Seated). s.home.setting.geometry) (sym c.of.ensures.seat) in
    let first : c.from.result ≡ g.nodes = search rules in
    let nodes : c.from-2.result ≡ g.nodes = search rules in
    let below = c.if-k-from.false in
    let low : c.args.k < g.nodes = omega arith in
    record {
      low = subst (λ (x : Geometry). c.args.k < x.nodes) e low;
      starts = node_starts g c.of.result.home.setting.geometry c.from-2.result c.args.k c.in_ok-at.at e nodes c.in_ok-at.ensures.1;
      ends = node_ends g c.of.result.home.setting.geometry c.from-2.result c.args.k c.in_ok-end.end e nodes c.in_ok-end.ensures.1;
    }
