use Rattle.wac_manifest.specs.Manifests.{component}
use Rattle.wac_manifest.specs.Views.{component_view}
use Rattle.wac_manifest.proofs.Reading.{list_next}
use Rattle.wac_manifest.proofs.manifest.components.Goals as goal

pub loop-value-preserved : goal.loop-value-preserved
loop-value-preserved c =
    list_next component component_view _ c.loop-value.all.items c.push.new.self.items c.in_ok-component_of.field-0 c.deref-value-items.result.now c.loop-value.value-index c.value-item.result c.loop-value-test.true c.value-item.is
    c.loop-value.invariant c.in_ok-component_of.ensures c.in_ok-push.ensures.items
