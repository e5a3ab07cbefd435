-- Laws of cells, of runs of their events, and of the machine.
pub mod Laws
pub mod MachineLaws
pub mod Runs
