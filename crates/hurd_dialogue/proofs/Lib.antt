pub mod Printed
pub mod ShownLaws
pub mod EndLaws
