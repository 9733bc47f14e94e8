use Rattle.std.proofs.Common.{◌∙◌, ◌≡◌, ◌<◌, ◌++◌, ℕ, List, ap, arith, get_or, length, map}
use Rattle.tko_ring.proofs.PointLemmas.{servers_all, servers_more}
use Rattle.tko_ring.specs.Points.{labels_of, point_at, points_from, point_values}
use Rattle.tko_ring.specs.Servers.{NamedServer}
use Rattle.tko_ring.specs.declared.point.Point.{Point}
use Rattle.tko_ring.proofs.points.points_of.Goals as goal

pub loop-place-preserved : goal.loop-place-preserved
loop-place-preserved c =
    let kind = c.args.kind in
    let servers = c.args.servers.now in
    let labels : ℕ → ℕ = λ weight. labels_of kind weight c.total_weight-total.result (length servers) in
    let place : ℕ = c.loop-place.place in
    let within : place < length servers = omega arith in
    let before : List Point = c.loop-place.drawing.points.items in
    let server : NamedServer = get_or servers place c.index-servers-place.result in
    let is = c.server.view_is ∙ c.index-servers-place.is in
    let name : c.deref.result.now ≡ server.name = c.deref.ensures.value ∙ ap (λ (s : NamedServer). s.name) is in
    let count : c.labels-labels.result ≡ labels server.weight =
    c.labels-labels.ensures
    ∙ ap (λ (n : ℕ). labels_of kind c.server.inside.weight c.total_weight-total.result n) c.count_of-count.ensures.value
    ∙ ap (λ (s : NamedServer). labels s.weight) is in
    servers_more kind labels place servers c.index-servers-place.result (points_from kind labels 0 servers) before
    c.add.new.self.points.items within c.loop-place.invariant
    (c.in_ok-add.ensures
    ∙ ap (λ (name : List ℕ). before ++ map (point_at place) (point_values kind name c.labels-labels.result)) name
    ∙ ap (λ (n : ℕ). before ++ map (point_at place) (point_values kind server.name n)) count)

pub returns : goal.returns
returns c =
    let kind = c.args.kind in
    let servers = c.args.servers.now in
    let labels : ℕ → ℕ = λ weight. labels_of kind weight c.total_weight-total.result (length servers) in
    servers_all kind labels c.loop-place.place servers (points_from kind labels 0 servers) c.loop-place.drawing.points.items
    (omega arith) c.loop-place.invariant
    ∙ ap (λ (total : ℕ). points_from kind (λ weight. labels_of kind weight total (length servers)) 0 servers) c.total_weight-total.ensures
