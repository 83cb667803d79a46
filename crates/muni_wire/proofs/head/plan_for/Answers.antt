use Rattle.std.proofs.Common.{rules, ◌≡◌, IsUtf8, subst, sym}
use Rattle.httparse.specs.Spans.{span_bytes}
use Rattle.muni_wire.specs.Routes.{path_of}
use Rattle.muni_wire.proofs.TableLemmas.{path-text}
use Rattle.muni_wire.proofs.head.plan_for.Goals as goal

pub find-requires : goal.find-requires
find-requires c =
    let target = span_bytes c.args.bytes.now c.args.head.now.path in
    let path : c.path_of.result.now ≡ path_of target = search rules in
    subst IsUtf8 (sym path) (path-text target c.requires.text)
