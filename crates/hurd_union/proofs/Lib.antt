pub mod ThereLaws
